-- What the steps of `locate` answer.
--   Field                         m of a design, and what the tables of its field hold
--   LogIs, SolutionIs             what an entry of them is
--   NotOne, NotTwo, NotThree      no position, no two and no three have a sum
--   SingleIs, PairIs, TripleIs    what a search for one position, for two and for three answers
--   TripleWith                    what the search for three answers, one of which is given
--   OneOfThree                    a position is one of each three that have a sum
--   PairOf                        two powers of the root with given sums of the powers and of the cubes
--   RootOf, ExponentsAre          what the search for their exponents answers
--   CarryAre                      what the test of two exponents answers
--   CubicRootOf                   what the search for the exponent of one of three answers
-- Assumes nothing.
use Rattle.std.specs.Prelude.{◌≡◌, ◌≢◌, ◌⊎◌, Option, None, Some, List, ℕ, ◌+◌, ◌-◌, ◌*◌, ◌^◌, ◌≤◌, ◌<◌, length, get_or}
use Rattle.bch.specs.Polynomial.{◌⊕◌}
use Rattle.bch.specs.Field.{power}
use Rattle.bch.specs.Locator.{Solution, FieldTables, TripleOf, PowerIs}

pub record Field (m : ℕ) (field : List ℕ) : Type 0 where
  pub m-low : 4 ≤ m
  pub m-high : m ≤ 10
  pub tables : FieldTables m field

-- a is the logarithm of x; any exponent for 0
abbrev pub LogIs : ℕ → ℕ → ℕ → Type 0
LogIs m x a = (a < 2 ^ m - 1) × (x ≢ 0 → power m a ≡ x)

-- a is the exponent of a solution, 0 where there is none
abbrev pub SolutionIs : ℕ → ℕ → ℕ → ℕ → Type 0
SolutionIs m k v a = (a < 2 ^ m - 1) × (a ≢ 0 → Solution m k v a) × ((e : ℕ) → 0 < e → e < 2 ^ m - 1 → Solution m k v e → a ≢ 0)

abbrev pub NotOne : List ℕ → ℕ → Type 0
NotOne table x = (p : ℕ) → p < length table → get_or table p 0 ≢ x

abbrev pub NotTwo : List ℕ → ℕ → Type 0
NotTwo table x = (p q : ℕ) → p < q → q < length table → get_or table p 0 ⊕ get_or table q 0 ≢ x

abbrev pub NotThree : List ℕ → ℕ → Type 0
NotThree table x = (j p q : ℕ) → j < p → p < q → q < length table → get_or table j 0 ⊕ (get_or table p 0 ⊕ get_or table q 0) ≢ x

unfoldable pub SingleIs : List ℕ → ℕ → Option ℕ → Type 0
SingleIs table x None = NotOne table x
SingleIs table x (Some p) = (p < length table) × (get_or table p 0 ≡ x)

unfoldable pub PairIs : List ℕ → ℕ → Option (ℕ × ℕ) → Type 0
PairIs table x None = NotTwo table x
PairIs table x (Some (p, q)) = (p < q) × (q < length table) × (get_or table p 0 ⊕ get_or table q 0 ≡ x)

unfoldable pub TripleIs : List ℕ → ℕ → Option (ℕ × ℕ × ℕ) → Type 0
TripleIs table x None = NotThree table x
TripleIs table x (Some (j, p, q)) = (j < p) × (p < q) × (q < length table) × (get_or table j 0 ⊕ (get_or table p 0 ⊕ get_or table q 0) ≡ x)

-- none where no two have what the entry at j leaves of the sum
unfoldable pub TripleWith : List ℕ → ℕ → ℕ → Option (ℕ × ℕ × ℕ) → Type 0
TripleWith table x j None = NotTwo table (x ⊕ get_or table j 0)
TripleWith table x j (Some (i, p, q)) = TripleIs table x (Some (i, p, q))

abbrev pub OneOfThree : List ℕ → ℕ → ℕ → Type 0
OneOfThree table x j =
    (i p q : ℕ) → i < p → p < q → q < length table → get_or table i 0 ⊕ (get_or table p 0 ⊕ get_or table q 0) ≡ x → (j ≡ i) ⊎ ((j ≡ p) ⊎ (j ≡ q))

-- powers i and k of the root have the sum s, and their cubes the sum c
pub record PairOf (m s c i k : ℕ) : Type 0 where
  pub i_below : i < 2 ^ m - 1
  pub k_below : k < 2 ^ m - 1
  pub apart : i ≢ k
  pub sum : s ≡ power m i ⊕ power m k
  pub cubes : c ≡ power m (3 * i) ⊕ power m (3 * k)

-- the positions that carry x^e and x^f, where their entries have the sum x
unfoldable pub CarryAre : List ℕ → ℕ → ℕ → ℕ → Option (ℕ × ℕ) → Type 0
CarryAre table x e f None =
    e < length table → f < length table → get_or table (length table - 1 - e) 0 ⊕ get_or table (length table - 1 - f) 0 ≢ x
CarryAre table x e f (Some (p, q)) = PairIs table x (Some (p, q))

-- power h of the root, times power a, is one of two powers whose sum is power a
abbrev pub RootOf : ℕ → ℕ → ℕ → ℕ → Type 0
RootOf m a c h =
    (i k : ℕ) → PairOf m (power m a) c i k → (h ≢ 0) × ((power m (h + a) ≡ power m i) ⊎ (power m (h + a) ≡ power m k))

unfoldable pub ExponentsAre : ℕ → ℕ → ℕ → Option (ℕ × ℕ) → Type 0
ExponentsAre m s c None = (i k : ℕ) → PairOf m s c i k → ⊥
ExponentsAre m s c (Some (e, f)) = (s ≢ 0) × ((i k : ℕ) → PairOf m s c i k → ((e ≡ i) × (f ≡ k)) ⊎ ((e ≡ k) × (f ≡ i)))

-- a is the exponent of one of three powers of the root with the sum s, where d is the sum of their cubes and the cube of s, and e that of
-- their fifth powers and the fifth power of s
abbrev pub CubicRootOf : ℕ → ℕ → ℕ → ℕ → ℕ → Type 0
CubicRootOf m s d e a =
    (c f i j k p q : ℕ) → TripleOf m s c f i j k → PowerIs m 3 s p → PowerIs m 5 s q → d ≡ p ⊕ c → e ≡ q ⊕ f → (a ≡ i) ⊎ ((a ≡ j) ⊎ (a ≡ k))
