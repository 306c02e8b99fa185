-- What the searches for one position, for two and for three say of what is located.
--   sums_of                             the values of four bits, behind those of the positions
--   no_defect, one_of_three, beyond     what one of three exponents says of the positions
--   answer_zero, answer_one, answer_two, answer_three, answer_none   what `locate` answers
-- Assumes nothing.
use mathlib.Core.Path.{◌≡◌, refl, sym, ap, ◌∙◌, subst⁻¹}
use mathlib.Core.Logic.{◌≢◌, ◌⊎◌, inl, inr, ⊎_map}
use mathlib.Core.List.{List}
use Prim.Native.Nat.{ℕ, ◌+◌, ◌-◌, ◌/◌, ◌%◌, ◌≤◌, ◌<◌}
use native.Mathlib.Omega.{arith}
use lib.ListN.{length, get_or, take, drop, length-drop}
use lib.Seq.{take_all}
use Rattle.std.specs.Prelude.{Some}
use Rattle.bch.specs.Polynomial.{◌⊕◌}
use Rattle.bch.specs.Field.{value_at}
use Rattle.bch.specs.Locator.{TripleOf, PowerIs, syndromes}
use Rattle.bch.proofs.Cubic.{cubic_defect}
use Rattle.decoder_locator.specs.declared.Located.TheVariants.{Nowhere, One, Two, Three}
use Rattle.decoder_locator.specs.Located.{located, positions_of, SumTable, Words}
use Rattle.decoder_locator.specs.Steps.{NotOne, NotTwo, NotThree, SingleIs, PairIs, TripleIs, CubicRootOf, OneOfThree}
use Rattle.decoder_locator.proofs.Choices.{located-zero, located_one, located_two, located_three, located_nowhere}
use Rattle.decoder_locator.proofs.Values.{code_of, triple_of_positions}

pub sums_of : (m r : ℕ) (positions values : List ℕ) → length values ≡ length positions + 128 → SumTable m r (drop (length positions) values)
    → (length (take (length values - length positions) (drop (length positions) values)) ≡ 128)
    × SumTable m r (take (length values - length positions) (drop (length positions) values))
sums_of m r positions values long sums =
    let rest = drop (length positions) values in
    let l = length-drop (length positions) values in
    let all : take (length values - length positions) rest ≡ rest = take_all (length values - length positions) rest (omega (arith, l)) in
    (ap length all ∙ omega (arith, long, l), subst⁻¹ (SumTable m r) all sums)

module _ {m t : ℕ} {positions : List ℕ} (W : Words m t positions) where
  -- what the search for one of three exponents says of the positions
  module _ (three : t ≡ 3) (x : ℕ) {s p : ℕ} (is : s ≡ syndromes m x) (P : PowerIs m 3 (s % 65536) p) where
    abbrev n : ℕ
    n = length positions

    exponents_of : (i u v : ℕ) → i < u → u < v → v < length positions → get_or positions i 0 ⊕ (get_or positions u 0 ⊕ get_or positions v 0) ≡ x
        → TripleOf m (s % 65536) (s / 65536) (value_at m 5 x) (n - 1 - i) (n - 1 - u) (n - 1 - v)
    exponents_of = triple_of_positions W x is (omega arith)

    pub no_defect : p ⊕ s / 65536 ≡ 0 → NotThree positions x
    no_defect z i u v k l b e = cubic_defect m W.m-low W.m-high (exponents_of i u v k l b e) P z

    module _ {q k : ℕ} (Q : PowerIs m 5 (s % 65536) q) (R : CubicRootOf m (s % 65536) (p ⊕ s / 65536) (q ⊕ value_at m 5 x) k) where
      exponent : (i u v : ℕ) → i < u → u < v → v < length positions → get_or positions i 0 ⊕ (get_or positions u 0 ⊕ get_or positions v 0) ≡ x
          → (k ≡ n - 1 - i) ⊎ ((k ≡ n - 1 - u) ⊎ (k ≡ n - 1 - v))
      exponent i u v a b c e = R (s / 65536) (value_at m 5 x) (n - 1 - i) (n - 1 - u) (n - 1 - v) p q (exponents_of i u v a b c e) P Q refl refl

      pub one_of_three : OneOfThree positions x (length positions - 1 - k)
      one_of_three i u v a b c e =
          ⊎_map (λ z. omega (arith, z)) (⊎_map (λ z. omega (arith, z)) (λ z. omega (arith, z))) (exponent i u v a b c e)

      pub beyond : length positions ≤ k → NotThree positions x
      beyond l i u v a b c e = go (exponent i u v a b c e)
        where
          go : (k ≡ n - 1 - i) ⊎ ((k ≡ n - 1 - u) ⊎ (k ≡ n - 1 - v)) → ⊥
          go (inl z) = omega arith
          go (inr (inl z)) = omega arith
          go (inr (inr z)) = omega arith

  pub answer_zero : (x : ℕ) → x ≡ 0 → positions_of Nowhere ≡ located positions t x
  unfolding positions_of
  answer_zero x e = sym (ap (located positions t) e ∙ located-zero m t positions W.position W.n_fits (code_of W))

  pub answer_one : (x p : ℕ) → SingleIs positions x (Some p) → positions_of (One p) ≡ located positions t x
  unfolding SingleIs positions_of
  answer_one x p h = sym (located_one m t positions W.position W.n_fits (code_of W) x p h.0 h.1)

  pub answer_two : 2 ≤ t → (x p q : ℕ) → PairIs positions x (Some (p, q)) → positions_of (Two p q) ≡ located positions t x
  unfolding PairIs positions_of
  answer_two two x p q h = sym (located_two m t positions W.position W.n_fits (code_of W) two x p q h.0 h.1 h.2)

  pub answer_three : 3 ≤ t → (x j p q : ℕ) → TripleIs positions x (Some (j, p, q)) → positions_of (Three j p q) ≡ located positions t x
  unfolding TripleIs positions_of
  answer_three three x j p q h =
      sym (located_three m t positions W.position W.n_fits (code_of W) three x j p q h.0 h.1 h.2 h.3)

  pub answer_none : (x : ℕ) → x ≢ 0 → NotOne positions x → (2 ≤ t → NotTwo positions x) → (3 ≤ t → NotThree positions x)
      → positions_of Nowhere ≡ located positions t x
  unfolding positions_of
  answer_none x d one two three = sym (located_nowhere positions t x W.t-high d one two three)
