-- The error positions of a word: which choice of positions the definition finds.
--   flip_bits-length, flip_bits-bits, flip_bits-distance   a word with some bits flipped
--   flip_bits-here, flip_bits_other   a position that is flipped once, and one that is not flipped
--   flips-once        positions that make the same word are the same
--   errors            the positions at which two words differ; flipping them turns one into the other
--   error_positions_found      where a codeword lies within t changes, the definition finds a choice that makes a codeword
--   error_positions-positions  in each case it gives at most t positions of the word
-- Assumes nothing.
use mathlib.Core.Path.{◌≡◌, refl, sym, ap, ◌∙◌, subst}
use mathlib.Core.Bool.{Bool, true, false, cond, true≢false}
use mathlib.Core.Logic.{◌≢◌, ◌⊎◌, inl, inr}
use mathlib.Core.List.{List, [], ◌∷◌}
use Prim.Native.Nat.{ℕ, zero, suc, ◌+◌, ◌-◌, ◌≤◌, ◌<◌, zero-le}
use native.Mathlib.Nat.{suc_inj, suc-ne-zero, le_of_suc-le-suc, not-suc-le-zero}
use native.Mathlib.Decide.{ℕ_discrete, dec_lt}
use native.Mathlib.Omega.{arith}
use lib.Dec.{eqb}
use lib.ListN.{length, get_or, set, length-set}
use lib.Seq.{get_or-set_same, get_or-set_other, set_out, ext_get_or}
use borrow.Author.Tests.{eq-eqb, ne_eqb}
use Rattle.bch.specs.Polynomial.{Bits}
use Rattle.bch.specs.Code.{is_codeword, unlike, distance}
use Rattle.bch.proofs.Store.{set_each}
use Rattle.bch.proofs.Distance.{unlike-same, unlike-le, unlike_other, distance_self}
use Rattle.staircase.specs.Lists.{tabulate}
use Rattle.staircase.specs.Design.{Params}
use Rattle.staircase.specs.Decoder.{choices, flip_bits, first_correcting, error_positions}
use Rattle.staircase.proofs.Search.{cond_ind}
use Rattle.staircase.proofs.Member.{In, in?, Sub, done, skip, keep, sub_nil, sub_in, tabulate_in, choices-sub, sub-choices}

-- ---- flipped bits

pub flip_bits-length : (c u : List ℕ) → length (flip_bits c u) ≡ length u
unfolding flip_bits
flip_bits-length [] u = refl
flip_bits-length (j ∷ c) u = length-set (flip_bits c u) j (1 - get_or (flip_bits c u) j 0) ∙ flip_bits-length c u

set-bit : (u : List ℕ) (j b : ℕ) → Bits u → b < 2 → Bits (set u j b)
set-bit u j b hu hb = go (dec_lt j (length u))
  where
    go : Dec (j < length u) → Bits (set u j b)
    go (yes l) = set_each (λ k z. z < 2) u j b l hb (λ k d. hu k)
    go (no l) = subst Bits (sym (set_out u j b (omega arith))) hu

pub flip_bits-bits : (c u : List ℕ) → Bits u → Bits (flip_bits c u)
unfolding flip_bits
flip_bits-bits [] u h = h
flip_bits-bits (j ∷ c) u h = set-bit (flip_bits c u) j (1 - get_or (flip_bits c u) j 0) (flip_bits-bits c u h) (omega arith)

pub flip_bits_other : (c u : List ℕ) (k : ℕ) → ¬ In k c → get_or (flip_bits c u) k 0 ≡ get_or u k 0
unfolding flip_bits
flip_bits_other [] u k d = refl
flip_bits_other (j ∷ c) u k d =
    get_or-set_other (flip_bits c u) j k (1 - get_or (flip_bits c u) j 0) 0 (λ e. d (inl e)) ∙ flip_bits_other c u k (λ i. d (inr i))

-- no position stands twice in a choice
abbrev Once : List ℕ → Type 0
Once [] = Unit {0}
Once (j ∷ c) = (¬ In j c) × Once c

pub flip_bits-here : (c u : List ℕ) → Once c → (k : ℕ) → In k c → k < length u → get_or (flip_bits c u) k 0 ≡ 1 - get_or u k 0
unfolding flip_bits
flip_bits-here (j ∷ c) u d k (inl e) l =
    subst (λ (z : ℕ). get_or (set (flip_bits c u) j (1 - get_or (flip_bits c u) j 0)) z 0 ≡ 1 - get_or u z 0) (sym e)
    (get_or-set_same (flip_bits c u) j (1 - get_or (flip_bits c u) j 0) 0 (omega (arith, e, l, flip_bits-length c u)) ∙ ap (λ (z : ℕ). 1 - z) (flip_bits_other c u j d.0))
flip_bits-here (j ∷ c) u d k (inr i) l =
    get_or-set_other (flip_bits c u) j k (1 - get_or (flip_bits c u) j 0) 0 (λ e. d.0 (subst (λ (z : ℕ). In z c) e i)) ∙ flip_bits-here c u d.1 k i l
flip_bits-here [] u d k x3 l = elim x3 [ ]

-- one changed entry is at most one more
set-distance : (u v : List ℕ) (j b : ℕ) → distance u (set v j b) ≤ distance u v + 1
unfolding distance
set-distance [] v j b = zero-le
set-distance (a ∷ u) [] j b = zero-le
set-distance (a ∷ u) (x ∷ v) zero b = omega (arith, unlike-le a b)
set-distance (a ∷ u) (x ∷ v) (suc j) b = omega (arith, set-distance u v j b)

pub flip_bits-distance : (c u : List ℕ) → distance u (flip_bits c u) ≤ length c
unfolding flip_bits
flip_bits-distance [] u = omega (arith, distance_self u)
flip_bits-distance (j ∷ c) u = omega (arith, set-distance u (flip_bits c u) j (1 - get_or (flip_bits c u) j 0), flip_bits-distance c u)

-- ---- choices of positions

once-sub : {c l : List ℕ} → Sub c l → Once l → Once c
once-sub done h = h
once-sub (skip s) h = once-sub s h.1
once-sub (keep {x = x} s) h = (λ i. h.0 (sub_in x s i), once-sub s h.1)

once-tabulate : (n : ℕ) (f : ℕ → ℕ) → ((j k : ℕ) → f j ≡ f k → j ≡ k) → Once (tabulate n f)
unfolding tabulate
once-tabulate zero f h = tt
once-tabulate (suc n) f h = (
  λ i. let t = tabulate_in n (λ k. f (suc k)) (f zero) i in let z = h zero (suc t.0) t.2 in omega (arith, z),
  once-tabulate n (λ k. f (suc k)) (λ j k e. suc_inj (h (suc j) (suc k) e)),
)

-- two of a list's sublists that have the same entries are the same
sub_same : {c d l : List ℕ} → Sub c l → Sub d l → Once l → ((x : ℕ) → In x c → In x d) → ((x : ℕ) → In x d → In x c) → c ≡ d
sub_same done done h f g = refl
sub_same (skip p) (skip q) h f g = sub_same p q h.1 f g
sub_same (skip p) (keep {x = x} q) h f g = absurd (h.0 (sub_in x p (g x (inl refl))))
sub_same (keep {x = x} p) (skip q) h f g = absurd (h.0 (sub_in x q (f x (inl refl))))
sub_same (keep {x = x} {c = c} {l = l} p) (keep {c = d} q) h f g =
    ap (λ (z : List ℕ). x ∷ z) (sub_same p q h.1 (λ y i. later y d (sub_in y p i) (f y (inr i))) (λ y i. later y c (sub_in y q i) (g y (inr i))))
  where
    later : (y : ℕ) (z : List ℕ) → In y l → In y (x ∷ z) → In y z
    later y z i (inl e) = absurd (h.0 (subst (λ (k : ℕ). In k l) e i))
    later y z i (inr j) = j

-- positions of a word of n bits, at most t of them
pub record Positions (n t : ℕ) (c : List ℕ) : Type 0 where
  pub sub : Sub c (tabulate n (λ j. j))
  pub few : length c ≤ t

module _ {n t : ℕ} {c : List ℕ} (p : Positions n t c) where
  pub positions-once : Once c
  positions-once = once-sub p.sub (once-tabulate n (λ j. j) (λ j k e. e))

  pub positions-below : (j : ℕ) → In j c → j < n
  positions-below j i = let q = tabulate_in n (λ k. k) j (sub_in j p.sub i) in subst (λ (z : ℕ). z < n) (sym q.2) q.1

-- positions that make the same word are the same
flips_in : (c d u : List ℕ) → Once c → ((k : ℕ) → In k c → k < length u) → Bits u → flip_bits c u ≡ flip_bits d u → (k : ℕ) → In k c → In k d
flips_in c d u once below hu same k i = go (in? nat? k d)
  where
    nat? : (x y : ℕ) → (x ≡ y) ⊎ (x ≢ y)
    nat? x y = pick (ℕ_discrete x y)
      where
        pick : Dec (x ≡ y) → (x ≡ y) ⊎ (x ≢ y)
        pick (yes e) = inl e
        pick (no n) = inr n

    go : In k d ⊎ (¬ In k d) → In k d
    go (inl j) = j
    go (inr n) =
        let b = hu k in
        let e : 1 - get_or u k 0 ≡ get_or u k 0 = sym (flip_bits-here c u once k i (below k i)) ∙ ap (λ (z : List ℕ). get_or z k 0) same ∙ flip_bits_other d u k n in
        absurd (omega (arith, b, e))

pub flips-once : (n t : ℕ) (c d u : List ℕ) → length u ≡ n → Positions n t c → Positions n t d → Bits u → flip_bits c u ≡ flip_bits d u → c ≡ d
flips-once n t c d u e p q hu same =
    sub_same p.sub q.sub (once-tabulate n (λ j. j) (λ j k z. z))
    (flips_in c d u (positions-once p) (λ k i. subst (λ (z : ℕ). k < z) (sym e) (positions-below p k i)) hu same)
    (flips_in d c u (positions-once q) (λ k i. subst (λ (z : ℕ). k < z) (sym e) (positions-below q k i)) hu (sym same))

-- ---- the positions at which two words differ, position j as f j

unfoldable pub errors_at : (ℕ → ℕ) → List ℕ → List ℕ → List ℕ
errors_at f [] v = []
errors_at f (a ∷ u) [] = []
errors_at f (a ∷ u) (b ∷ v) = cond (eqb a b) (errors_at (λ k. f (suc k)) u v) (f zero ∷ errors_at (λ k. f (suc k)) u v)

errors_at_sub : (f : ℕ → ℕ) (u v : List ℕ) → length u ≡ length v → Sub (errors_at f u v) (tabulate (length u) f)
unfolding errors_at tabulate
errors_at_sub f [] v e = done
errors_at_sub f (a ∷ u) [] e = absurd (suc-ne-zero (length u) e)
errors_at_sub f (a ∷ u) (b ∷ v) e =
    let rest = errors_at_sub (λ k. f (suc k)) u v (suc_inj e) in
    cond_ind (λ (c : List ℕ). Sub c (f zero ∷ tabulate (length u) (λ k. f (suc k)))) (eqb a b) (errors_at (λ k. f (suc k)) u v) (f zero ∷ errors_at (λ k. f (suc k)) u v)
    (λ q. skip rest) (λ q. keep rest)

errors_at_length : (f : ℕ → ℕ) (u v : List ℕ) → length (errors_at f u v) ≡ distance u v
unfolding errors_at distance
errors_at_length f [] v = refl
errors_at_length f (a ∷ u) [] = refl
errors_at_length f (a ∷ u) (b ∷ v) = go (ℕ_discrete a b) (errors_at_length (λ k. f (suc k)) u v)
  where
    go : Dec (a ≡ b) → length (errors_at (λ k. f (suc k)) u v) ≡ distance u v
        → length (cond (eqb a b) (errors_at (λ k. f (suc k)) u v) (f zero ∷ errors_at (λ k. f (suc k)) u v)) ≡ unlike a b + distance u v
    go (yes e) h =
        let c = ap (λ (z : Bool). length (cond z (errors_at (λ k. f (suc k)) u v) (f zero ∷ errors_at (λ k. f (suc k)) u v))) (eq-eqb a b e) in
        omega (arith, c, h, unlike-same e)
    go (no d) h =
        let c = ap (λ (z : Bool). length (cond z (errors_at (λ k. f (suc k)) u v) (f zero ∷ errors_at (λ k. f (suc k)) u v))) (ne_eqb a b d) in
        omega (arith, c, h, unlike_other d)

errors_at_in : (f : ℕ → ℕ) (u v : List ℕ) → length u ≡ length v → (k : ℕ) → k < length u → get_or u k 0 ≢ get_or v k 0 → In (f k) (errors_at f u v)
unfolding errors_at
errors_at_in f [] v e k l d = absurd (not-suc-le-zero l)
errors_at_in f (a ∷ u) [] e k l d = absurd (suc-ne-zero (length u) e)
errors_at_in f (a ∷ u) (b ∷ v) e zero l d =
    subst (λ (z : Bool). In (f zero) (cond z (errors_at (λ k. f (suc k)) u v) (f zero ∷ errors_at (λ k. f (suc k)) u v))) (sym (ne_eqb a b d)) (inl refl)
errors_at_in f (a ∷ u) (b ∷ v) e (suc k) l d =
    let rest = errors_at_in (λ j. f (suc j)) u v (suc_inj e) k (le_of_suc-le-suc l) d in
    cond_ind (λ (c : List ℕ). In (f (suc k)) c) (eqb a b) (errors_at (λ k. f (suc k)) u v) (f zero ∷ errors_at (λ k. f (suc k)) u v) (λ q. rest) (λ q. inr rest)

errors_at_out : (f : ℕ → ℕ) (u v : List ℕ) (x : ℕ) → In x (errors_at f u v) → (k : ℕ) × (x ≡ f k) × (get_or u k 0 ≢ get_or v k 0)
unfolding errors_at
errors_at_out f (a ∷ u) (b ∷ v) x i = go (ℕ_discrete a b) (errors_at_out (λ k. f (suc k)) u v x)
  where
    later : (k : ℕ) × (x ≡ f (suc k)) × (get_or u k 0 ≢ get_or v k 0) → (k : ℕ) × (x ≡ f k) × (get_or (a ∷ u) k 0 ≢ get_or (b ∷ v) k 0)
    later t = (suc t.0, t.1, t.2)

    here : a ≢ b → In x (f zero ∷ errors_at (λ k. f (suc k)) u v) → (In x (errors_at (λ k. f (suc k)) u v) → (k : ℕ) × (x ≡ f (suc k)) × (get_or u k 0 ≢ get_or v k 0))
        → (k : ℕ) × (x ≡ f k) × (get_or (a ∷ u) k 0 ≢ get_or (b ∷ v) k 0)
    here d (inl e) rest = (zero, e, d)
    here d (inr j) rest = later (rest j)

    go : Dec (a ≡ b) → (In x (errors_at (λ k. f (suc k)) u v) → (k : ℕ) × (x ≡ f (suc k)) × (get_or u k 0 ≢ get_or v k 0))
        → (k : ℕ) × (x ≡ f k) × (get_or (a ∷ u) k 0 ≢ get_or (b ∷ v) k 0)
    go (yes e) rest = later (rest (subst (λ (z : Bool). In x (cond z (errors_at (λ k. f (suc k)) u v) (f zero ∷ errors_at (λ k. f (suc k)) u v))) (eq-eqb a b e) i))
    go (no d) rest = here d (subst (λ (z : Bool). In x (cond z (errors_at (λ k. f (suc k)) u v) (f zero ∷ errors_at (λ k. f (suc k)) u v))) (ne_eqb a b d) i) rest
errors_at_out f [] v x i = elim i [ ]
errors_at_out f (a ∷ u) [] x i = elim i [ ]

unfoldable pub errors : List ℕ → List ℕ → List ℕ
errors u v = errors_at (λ j. j) u v

pub errors-positions : (u v : List ℕ) → length u ≡ length v → (t : ℕ) → distance u v ≤ t → Positions (length u) t (errors u v)
unfolding errors
errors-positions u v e t h = record { sub = errors_at_sub (λ j. j) u v e; few = omega (arith, errors_at_length (λ j. j) u v) }

pub errors_flipped : (u v : List ℕ) → Bits u → Bits v → length u ≡ length v → flip_bits (errors u v) u ≡ v
unfolding errors
errors_flipped u v hu hv e =
    ext_get_or 0 (flip_bits (errors u v) u) v (flip_bits-length (errors u v) u ∙ e)
    (λ k l. go k (subst (λ (z : ℕ). k < z) (flip_bits-length (errors u v) u) l) (ℕ_discrete (get_or u k 0) (get_or v k 0)))
  where
    go : (k : ℕ) → k < length u → Dec (get_or u k 0 ≡ get_or v k 0) → get_or (flip_bits (errors u v) u) k 0 ≡ get_or v k 0
    go k l (yes q) =
        flip_bits_other (errors u v) u k (λ i. let t = errors_at_out (λ j. j) u v k i in subst (λ (z : ℕ). get_or u z 0 ≢ get_or v z 0) (sym t.1) t.2 q) ∙ q
    go k l (no d) =
        flip_bits-here (errors u v) u (positions-once (errors-positions u v e (distance u v) (omega arith))) k (errors_at_in (λ j. j) u v e k l d) l
        ∙ (let a = hu k in let b = hv k in omega (arith, a, b, d))

-- ---- the search

-- where some choice makes a codeword, the first such one is a choice and makes one
first_correcting_found : (s : Params) (u : List ℕ) (cs : List (List ℕ)) (c : List ℕ) → In c cs → is_codeword s.g s.r (flip_bits c u) ≡ true
    → In (first_correcting s u cs) cs × (is_codeword s.g s.r (flip_bits (first_correcting s u cs) u) ≡ true)
unfolding first_correcting
first_correcting_found s u (b ∷ cs) c i h =
    cond_ind (λ (z : List ℕ). In z (b ∷ cs) × (is_codeword s.g s.r (flip_bits z u) ≡ true)) (is_codeword s.g s.r (flip_bits b u)) b (first_correcting s u cs)
    (λ e. (inl refl, e)) (λ e. later e i (first_correcting_found s u cs c))
  where
    later : is_codeword s.g s.r (flip_bits b u) ≡ false → In c (b ∷ cs)
        → (In c cs → is_codeword s.g s.r (flip_bits c u) ≡ true → In (first_correcting s u cs) cs × (is_codeword s.g s.r (flip_bits (first_correcting s u cs) u) ≡ true))
        → In (first_correcting s u cs) (b ∷ cs) × (is_codeword s.g s.r (flip_bits (first_correcting s u cs) u) ≡ true)
    later e (inl k) rest = absurd (true≢false (sym h ∙ ap (λ (z : List ℕ). is_codeword s.g s.r (flip_bits z u)) k ∙ e))
    later e (inr k) rest = let r = rest k h in (inr r.0, r.1)
first_correcting_found s u [] c i h = elim i [ ]

-- where a choice of at most t positions makes a codeword, the definition finds such a choice
pub error_positions_found : (s : Params) (u c : List ℕ) → Positions (length u) s.t c → is_codeword s.g s.r (flip_bits c u) ≡ true
    → Positions (length u) s.t (error_positions s u) × (is_codeword s.g s.r (flip_bits (error_positions s u) u) ≡ true)
unfolding error_positions
error_positions_found s u c p h =
    let ps : List ℕ = tabulate (length u) (λ j. j) in
    let r = first_correcting_found s u (choices s.t ps) c (sub-choices s.t p.sub p.few) h in
    let q = choices-sub ps s.t (error_positions s u) r.0 in
    (record { sub = q.0; few = q.1 }, r.1)

-- the first such choice is one of the choices, or none
first_correcting-among : (s : Params) (u : List ℕ) (cs : List (List ℕ)) (F : List ℕ → Type 0) → F [] → ((c : List ℕ) → In c cs → F c)
    → F (first_correcting s u cs)
unfolding first_correcting
first_correcting-among s u [] F none each = none
first_correcting-among s u (b ∷ cs) F none each =
    cond_ind F (is_codeword s.g s.r (flip_bits b u)) b (first_correcting s u cs) (λ e. each b (inl refl))
    (λ e. first_correcting-among s u cs F none (λ c i. each c (inr i)))

-- also where no choice makes a codeword, what the definition gives are positions of the word
pub error_positions-positions : (s : Params) (u : List ℕ) → Positions (length u) s.t (error_positions s u)
unfolding error_positions
error_positions-positions s u =
    let ps : List ℕ = tabulate (length u) (λ j. j) in
    first_correcting-among s u (choices s.t ps) (Positions (length u) s.t) (record { sub = sub_nil ps; few = zero-le })
    (λ c i. let q = choices-sub ps s.t c i in record { sub = q.0; few = q.1 })
