-- The positions of a word's errors, from its remainder alone. A table has the power of x that each position carries, modulo the generator.
--   sum_at          the sum of a table's entries at some positions
--   first_with_sum   the first of some choices of positions whose entries have a given sum
--   located        the positions whose entries have it
--   positions_of    the positions that an answer of the code names
--   SumTable       the values of the polynomials of four bits
--   Words          m and t of a design, and what the table of its words' positions holds
--   LocatorTables         what the tables lent to `locate` hold
-- Assumes nothing.
use Rattle.std.specs.Prelude.{◌≡◌, cond, List, [], ◌∷◌, ℕ, ◌+◌, ◌-◌, ◌*◌, ◌^◌, ◌≤◌, ◌<◌, eqb, length, get_or, take, drop}
use Rattle.bch.specs.Polynomial.{◌⊕◌}
use Rattle.bch.specs.Code.{generator}
use Rattle.bch.specs.Powers.{PositionPowers}
use Rattle.bch.specs.Locator.{syndromes, SyndromeTable, FieldTables}
use Rattle.staircase.specs.Lists.{tabulate}
use Rattle.staircase.specs.Decoder.{choices}
use Rattle.decoder_locator.specs.declared.Located.{Located}
use Rattle.decoder_locator.specs.declared.Located.TheVariants.{Nowhere, One, Two, Three}

unfoldable pub sum_at : List ℕ → List ℕ → ℕ
sum_at table [] = 0
sum_at table (j ∷ c) = get_or table j 0 ⊕ sum_at table c

-- the first of some choices of positions whose entries have the sum x; the empty one where none has
unfoldable pub first_with_sum : List ℕ → ℕ → List (List ℕ) → List ℕ
first_with_sum table x [] = []
first_with_sum table x (c ∷ cs) = cond (eqb (sum_at table c) x) c (first_with_sum table x cs)

-- the positions, at most t, whose entries have the sum x; none where there are no such
unfoldable pub located : List ℕ → ℕ → ℕ → List ℕ
located table t x = first_with_sum table x (choices t (tabulate (length table) (λ j. j)))

unfoldable pub positions_of : Located → List ℕ
positions_of Nowhere = []
positions_of (One p) = p ∷ []
positions_of (Two p q) = p ∷ q ∷ []
positions_of (Three j p q) = j ∷ p ∷ q ∷ []

-- entry 16 k + v has the values of the polynomial v times x^4k, for each four bits that a number of r bits has
abbrev pub SumTable : ℕ → ℕ → List ℕ → Type 0
SumTable m r sums = (k v : ℕ) → 4 * k < r → v < 16 → get_or sums (16 * k + v) 0 ≡ syndromes m (v * 2 ^ (4 * k))

pub record Words (m t : ℕ) (positions : List ℕ) : Type 0 where
  pub m-low : 4 ≤ m
  pub m-high : m ≤ 10
  pub t-low : 1 ≤ t
  pub t-high : t ≤ 3
  pub fits : 2 * (m * t) + 2 < 2 ^ m
  pub position : PositionPowers (generator m t) (m * t) positions
  pub n_fits : length positions ≤ 2 ^ m - 1

-- the values of the positions stand before those of four bits
pub record LocatorTables (m t : ℕ) (positions syndromes field : List ℕ) : Type 0 where
  pub words : Words m t positions
  pub as_long : length syndromes ≡ length positions + 128
  pub syndrome : SyndromeTable m (take (length positions) syndromes)
  pub sums : SumTable m (m * t) (drop (length positions) syndromes)
  pub tables : FieldTables m field
