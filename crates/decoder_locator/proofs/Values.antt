-- The values of the entries of positions, and what they say of the sums of entries.
--   entries-apart                 positions whose entries have a sum that is not 0 differ
--   code_of, degree_small         the code of a table of positions, and the bits of a remainder
--   low_below, high-below         values are field elements
--   single-exponent, single-value a position whose entry is x
--   pair_of_positions             two positions whose entries have the sum x
--   triple_of_positions           three positions whose entries have the sum x
--   not-zero                      x is not 0 where its value is not
--   two_absent, two_carry         what `two` answers
--   left-values                   the values of a sum less an entry
-- Assumes nothing.
use mathlib.Core.Path.{◌≡◌, sym, ap, ap₂, ◌∙◌, subst}
use mathlib.Core.Logic.{◌≢◌, ◌⊎◌, inl, inr}
use mathlib.Core.List.{List}
use Prim.Native.Nat.{ℕ, ◌+◌, ◌-◌, ◌*◌, ◌/◌, ◌%◌, ◌^◌, ◌≤◌, ◌<◌}
use native.Mathlib.Nat.{mul-le-mul}
use native.Mathlib.Omega.{arith}
use lib.ListN.{length, get_or, take}
use lib.Seq.{length-take-le, get_or-take}
use Rattle.std.specs.Prelude.{Option, None, Some}
use Rattle.bch.specs.Polynomial.{◌⊕◌}
use Rattle.bch.specs.Field.{power, value_at}
use Rattle.bch.specs.Locator.{TripleOf, SyndromeTable, syndromes}
use Rattle.bch.proofs.Sum.{⊕_comm, ⊕-self}
use Rattle.bch.proofs.Polynomial.{poly_at-sum, poly_at-zero}
use Rattle.bch.proofs.Bch.{Code}
use Rattle.bch.proofs.Locator.{power-not-zero}
use Rattle.bch.proofs.Syndromes.{value-below, syndromes-sum, syndromes-low, syndromes-high, first-value, third-value, fifth_value}
use Rattle.decoder_locator.specs.Located.{Words}
use Rattle.decoder_locator.specs.Steps.{LogIs, NotTwo, PairIs, PairOf, CarryAre, ExponentsAre}
use Rattle.decoder_locator.proofs.Roots.{log-only}

-- positions whose entries have a sum that is not 0 differ
pub entries-apart : (table : List ℕ) (p q x : ℕ) → get_or table p 0 ⊕ get_or table q 0 ≡ x → x ≢ 0 → p ≢ q
entries-apart table p q x e d z = d (sym e ∙ ap (λ (k : ℕ). get_or table k 0 ⊕ get_or table q 0) z ∙ ⊕-self (get_or table q 0))

module _ {m t : ℕ} {table : List ℕ} (W : Words m t table) where
  pub code_of : Code m t
  code_of = record { m-low = W.m-low; m-high = W.m-high; t-low = W.t-low; t-high = W.t-high; fits = W.fits }

  pub degree_small : m * t ≤ 30
  degree_small = mul-le-mul W.m-high W.t-high

  value-at : (p : ℕ) → p < length table → value_at m 1 (get_or table p 0) ≡ power m (length table - 1 - p)
  value-at p l = ap (value_at m 1) (W.position p l) ∙ first-value m t code_of (length table - 1 - p)

  cube_at : 2 ≤ t → (p : ℕ) → p < length table → value_at m 3 (get_or table p 0) ≡ power m (3 * (length table - 1 - p))
  cube_at h p l = ap (value_at m 3) (W.position p l) ∙ third-value m t code_of h (length table - 1 - p)

  fifth_at : 3 ≤ t → (p : ℕ) → p < length table → value_at m 5 (get_or table p 0) ≡ power m (5 * (length table - 1 - p))
  fifth_at h p l = ap (value_at m 5) (W.position p l) ∙ fifth_value m t code_of h (length table - 1 - p)

  value-sum : (i a b : ℕ) → value_at m i (a ⊕ b) ≡ value_at m i a ⊕ value_at m i b
  unfolding value_at
  value-sum i a b = poly_at-sum _ a b 1

  entry-values : 2 ≤ t → (p : ℕ) → p < length table
      → syndromes m (get_or table p 0) ≡ power m (length table - 1 - p) + 65536 * power m (3 * (length table - 1 - p))
  unfolding syndromes
  entry-values h p l = ap₂ (λ (a b : ℕ). a + 65536 * b) (value-at p l) (cube_at h p l)

  module _ (x : ℕ) {s : ℕ} (is : s ≡ syndromes m x) where
    low-is : s % 65536 ≡ value_at m 1 x
    low-is = ap (λ (z : ℕ). z % 65536) is ∙ syndromes-low m W.m-low W.m-high x

    high_is : s / 65536 ≡ value_at m 3 x
    high_is = ap (λ (z : ℕ). z / 65536) is ∙ syndromes-high m W.m-low W.m-high x

    pub low_below : s % 65536 < 2 ^ m
    low_below = subst (λ (z : ℕ). z < 2 ^ m) (sym low-is) (value-below m W.m-low W.m-high 1 x)

    pub high-below : s / 65536 < 2 ^ m
    high-below = subst (λ (z : ℕ). z < 2 ^ m) (sym high_is) (value-below m W.m-low W.m-high 3 x)

    pub not-zero : s % 65536 ≢ 0 → x ≢ 0
    unfolding value_at
    not-zero d z = d (low-is ∙ ap (value_at m 1) z ∙ poly_at-zero _ 1)

    single_low : (p : ℕ) → p < length table → get_or table p 0 ≡ x → s % 65536 ≡ power m (length table - 1 - p)
    single_low p l e = low-is ∙ ap (value_at m 1) (sym e) ∙ value-at p l

    pub single_value : (p : ℕ) → p < length table → get_or table p 0 ≡ x → s % 65536 ≢ 0
    single_value p l e z = power-not-zero m W.m-low W.m-high (length table - 1 - p) (sym (single_low p l e) ∙ z)

    pub single_exponent : {a : ℕ} → LogIs m (s % 65536) a → (p : ℕ) → p < length table → get_or table p 0 ≡ x → a ≡ length table - 1 - p
    single_exponent L p l e =
        let n_fits = W.n_fits in
        log-only W.m-low W.m-high (length table - 1 - p) L (omega arith) (single_low p l e)

    pub triple_of_positions : 3 ≤ t → (i p q : ℕ) → i < p → p < q → q < length table → get_or table i 0 ⊕ (get_or table p 0 ⊕ get_or table q 0) ≡ x
        → TripleOf m (s % 65536) (s / 65536) (value_at m 5 x) (length table - 1 - i) (length table - 1 - p) (length table - 1 - q)
    triple_of_positions three i p q k l b e =
        let i_below : i < length table = omega arith in
        let p_below : p < length table = omega arith in
        let two : 2 ≤ t = omega arith in
        let n_fits = W.n_fits in
        let sums : (v : ℕ) (f : ℕ → ℕ) → ((p : ℕ) → p < length table → value_at m v (get_or table p 0) ≡ f p) → value_at m v x ≡ f i ⊕ (f p ⊕ f q) = λ v f at.
        ap (value_at m v) (sym e) ∙ value-sum v (get_or table i 0) (get_or table p 0 ⊕ get_or table q 0)
        ∙ ap₂ ◌⊕◌ (at i i_below) (value-sum v (get_or table p 0) (get_or table q 0) ∙ ap₂ ◌⊕◌ (at p p_below) (at q b))
        in
        record {
          i_below = omega arith;
          j_below = omega arith;
          k_below = omega arith;
          apart_ij = λ z. omega (arith, z);
          apart_ik = λ z. omega (arith, z);
          apart_jk = λ z. omega (arith, z);
          sum = low-is ∙ sums 1 (λ p. power m (length table - 1 - p)) value-at;
          cubes = high_is ∙ sums 3 (λ p. power m (3 * (length table - 1 - p))) (cube_at two);
          fifths = sums 5 (λ p. power m (5 * (length table - 1 - p))) (fifth_at three);
        }

    module _ (two : 2 ≤ t) where
      pair_of_positions : (p q : ℕ) → p < q → q < length table → get_or table p 0 ⊕ get_or table q 0 ≡ x
          → PairOf m (s % 65536) (s / 65536) (length table - 1 - p) (length table - 1 - q)
      pair_of_positions p q l b e =
          let p_below : p < length table = omega arith in
          let n_fits = W.n_fits in
          record {
            i_below = omega arith;
            k_below = omega arith;
            apart = λ z. omega (arith, z);
            sum = low-is ∙ ap (value_at m 1) (sym e) ∙ value-sum 1 (get_or table p 0) (get_or table q 0) ∙ ap₂ ◌⊕◌ (value-at p p_below) (value-at q b);
            cubes = high_is ∙ ap (value_at m 3) (sym e) ∙ value-sum 3 (get_or table p 0) (get_or table q 0) ∙ ap₂ ◌⊕◌ (cube_at two p p_below) (cube_at two q b);
          }

      pub two_absent : ExponentsAre m (s % 65536) (s / 65536) None → NotTwo table x
      unfolding ExponentsAre
      two_absent E p q l b e = E (length table - 1 - p) (length table - 1 - q) (pair_of_positions p q l b e)

      -- no pair has the sum where the positions of the exponents have not
      not_carried : (e f : ℕ) → ((i k : ℕ) → PairOf m (s % 65536) (s / 65536) i k → ((e ≡ i) × (f ≡ k)) ⊎ ((e ≡ k) × (f ≡ i)))
          → (e < length table → f < length table → get_or table (length table - 1 - e) 0 ⊕ get_or table (length table - 1 - f) 0 ≢ x) → NotTwo table x
      not_carried e f E h p q l b z = go (E (length table - 1 - p) (length table - 1 - q) (pair_of_positions p q l b z))
        where
          at : (e p : ℕ) → e ≡ length table - 1 - p → p < length table → get_or table (length table - 1 - e) 0 ≡ get_or table p 0
          at e p q l = ap (λ (k : ℕ). get_or table k 0) (omega arith)

          p_below : p < length table
          p_below = omega arith

          go : ((e ≡ length table - 1 - p) × (f ≡ length table - 1 - q)) ⊎ ((e ≡ length table - 1 - q) × (f ≡ length table - 1 - p)) → ⊥
          go (inl w) = h (omega (arith, w.0)) (omega (arith, w.1)) (ap₂ ◌⊕◌ (at e p w.0 p_below) (at f q w.1 b) ∙ z)
          go (inr w) =
              h (omega (arith, w.0)) (omega (arith, w.1))
              (ap₂ ◌⊕◌ (at e q w.0 b) (at f p w.1 p_below) ∙ ⊕_comm (get_or table q 0) (get_or table p 0) ∙ z)

      pub two_carry : (e f : ℕ) → ExponentsAre m (s % 65536) (s / 65536) (Some (e, f)) → (a : Option (ℕ × ℕ)) → CarryAre table x e f a → PairIs table x a
      unfolding ExponentsAre CarryAre PairIs
      two_carry e f E (Some (p, q)) h = h
      two_carry e f E None h = not_carried e f E.1 h

      pub left-values : (values : List ℕ) → SyndromeTable m (take (length table) values) → length table ≤ length values → (j : ℕ) → j < length table
          → s ⊕ get_or values j 0 ≡ syndromes m (x ⊕ get_or table j 0)
      left-values values S fit j l =
          let long = length-take-le (length table) values fit in
          ap₂ ◌⊕◌ is
          (sym (get_or-take (length table) values j 0 l) ∙ S j (omega (arith, long))
          ∙ ap (λ (n : ℕ). power m (n - 1 - j) + 65536 * power m (3 * (n - 1 - j))) long ∙ sym (entry-values two j l))
          ∙ sym (syndromes-sum m W.m-low W.m-high x (get_or table j 0))
