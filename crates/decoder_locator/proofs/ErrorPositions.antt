-- The decoder's error positions are those that the remainder locates.
--   flip-remainder           flipping a bit adds the power that its position carries to the remainder
--   flip_bits-remainder       the remainder of a word with some bits flipped
--   error_positions-located   the definition of the decoder is that of the locator, at the word's remainder
-- Assumes nothing.
use mathlib.Core.Path.{◌≡◌, refl, sym, ap, ap₂, ◌∙◌}
use mathlib.Core.Bool.{Bool, cond}
use mathlib.Core.Logic.{inl, inr}
use mathlib.Core.List.{List, [], ◌∷◌}
use Prim.Native.Nat.{ℕ, zero, suc, ◌-◌, ◌<◌}
use native.Mathlib.Nat.{not-suc-le-zero, le_of_suc-le-suc, suc-sub-suc, sub-zero}
use native.Mathlib.Decide.{ℕ_discrete}
use native.Mathlib.Omega.{arith}
use lib.Dec.{eqb}
use lib.ListN.{length, get_or, set, length-set}
use borrow.Author.Tests.{eq-eqb, ne_eqb}
use Rattle.bch.specs.Polynomial.{Bits, ◌⊕◌, times_x, iterate, horner, remainder}
use Rattle.bch.specs.Code.{is_codeword}
use Rattle.bch.specs.Powers.{power_mod, PositionPowers}
use Rattle.bch.proofs.Sum.{bit_ind, ⊕_assoc, ⊕_comm, ⊕-zero-right, ⊕-self, ⊕_equal}
use Rattle.bch.proofs.Polynomial.{iterate_linear}
use Rattle.bch.proofs.Modulus.{times_x_linear}
use Rattle.bch.proofs.Word.{horner_cons}
use Rattle.staircase.specs.Lists.{tabulate}
use Rattle.staircase.specs.Design.{Params}
use Rattle.staircase.specs.Decoder.{choices, flip_bits, first_correcting, error_positions}
use Rattle.staircase.proofs.Member.{In, choices-sub}
use Rattle.staircase.proofs.Errors.{Positions, positions-below, flip_bits-length, flip_bits-bits}
use Rattle.decoder_locator.specs.Located.{sum_at, first_with_sum, located}

-- ---- flipped bits

flipped_bit : (b : ℕ) → b < 2 → 1 - b ≡ b ⊕ 1
unfolding ◌⊕◌
flipped_bit = bit_ind (λ (b : ℕ). 1 - b ≡ b ⊕ 1) refl refl

pub flip-remainder : (g r : ℕ) (u : List ℕ) (j : ℕ) → Bits u → j < length u
    → remainder g r (set u j (1 - get_or u j 0)) ≡ remainder g r u ⊕ power_mod g r (length u - suc j)
unfolding remainder power_mod
flip-remainder g r [] j h l = absurd (not-suc-le-zero l)
flip-remainder g r (b ∷ u) zero h l =
    let T : ℕ → ℕ = times_x g r in
    let n : ℕ = length u in
    let lin : (a c : ℕ) → T (a ⊕ c) ≡ T a ⊕ T c = times_x_linear g r in
    horner_cons T lin (1 - b) u
    ∙ ap (λ (z : ℕ). z ⊕ horner T 0 u) (ap (iterate T n) (flipped_bit b (h 0)) ∙ iterate_linear T lin n b 1)
    ∙ moved (iterate T n b) (iterate T n 1) (horner T 0 u)
    ∙ ap₂ ◌⊕◌ (sym (horner_cons T lin b u)) (ap (λ (e : ℕ). iterate T e 1) (sym (suc-sub-suc n 0 ∙ sub-zero n)))
  where
    moved : (a b c : ℕ) → a ⊕ b ⊕ c ≡ a ⊕ c ⊕ b
    moved a b c = ⊕_assoc a b c ∙ ap (λ (z : ℕ). a ⊕ z) (⊕_comm b c) ∙ sym (⊕_assoc a c b)
flip-remainder g r (b ∷ u) (suc j) h l =
    let T : ℕ → ℕ = times_x g r in
    let n : ℕ = length u in
    let v : List ℕ = set u j (1 - get_or u j 0) in
    let lin : (a c : ℕ) → T (a ⊕ c) ≡ T a ⊕ T c = times_x_linear g r in
    horner_cons T lin b v
    ∙ ap₂ (λ (k z : ℕ). iterate T k b ⊕ z) (length-set u j (1 - get_or u j 0)) (flip-remainder g r u j (λ k. h (suc k)) (le_of_suc-le-suc l))
    ∙ sym (⊕_assoc (iterate T n b) (horner T 0 u) (iterate T (n - suc j) 1))
    ∙ ap₂ ◌⊕◌ (sym (horner_cons T lin b u)) (ap (λ (e : ℕ). iterate T e 1) (sym (suc-sub-suc n (suc j))))

module _ (g r : ℕ) (table u : List ℕ) (hu : Bits u) (e : length table ≡ length u) (at : PositionPowers g r table) where
  pub flip_bits-remainder : (c : List ℕ) → ((j : ℕ) → In j c → j < length u) → remainder g r (flip_bits c u) ≡ remainder g r u ⊕ sum_at table c
  unfolding flip_bits sum_at
  flip_bits-remainder [] h = sym (⊕-zero-right (remainder g r u))
  flip_bits-remainder (j ∷ c) h =
      let v : List ℕ = flip_bits c u in
      let l : j < length u = h j (inl refl) in
      let lv : j < length v = omega (arith, flip_bits-length c u) in
      let k : length v - suc j ≡ length table - 1 - j = omega (arith, flip_bits-length c u) in
      flip-remainder g r v j (flip_bits-bits c u hu) lv
      ∙ ap₂ ◌⊕◌ (flip_bits-remainder c (λ i p. h i (inr p))) (ap (power_mod g r) k ∙ sym (at j (omega arith)))
      ∙ ⊕_assoc (remainder g r u) (sum_at table c) (get_or table j 0)
      ∙ ap (λ (z : ℕ). remainder g r u ⊕ z) (⊕_comm (sum_at table c) (get_or table j 0))

-- ---- the search

sum_test : (a b : ℕ) → eqb (a ⊕ b) 0 ≡ eqb b a
sum_test a b = go (ℕ_discrete b a)
  where
    go : Dec (b ≡ a) → eqb (a ⊕ b) 0 ≡ eqb b a
    go (yes e) = eq-eqb (a ⊕ b) 0 (ap (λ (z : ℕ). a ⊕ z) e ∙ ⊕-self a) ∙ sym (eq-eqb b a e)
    go (no d) = ne_eqb (a ⊕ b) 0 (λ z. d (sym (⊕_equal z))) ∙ sym (ne_eqb b a d)

module _ (s : Params) (u table : List ℕ) (hu : Bits u) (e : length table ≡ length u) (at : PositionPowers s.g s.r table) where
  first-same : (cs : List (List ℕ)) → ((c : List ℕ) → In c cs → (j : ℕ) → In j c → j < length u)
      → first_correcting s u cs ≡ first_with_sum table (remainder s.g s.r u) cs
  unfolding first_correcting first_with_sum is_codeword
  first-same [] h = refl
  first-same (c ∷ cs) h =
      ap₂ (λ (z : Bool) (l : List ℕ). cond z c l)
      (ap (λ (x : ℕ). eqb x 0) (flip_bits-remainder s.g s.r table u hu e at c (h c (inl refl))) ∙ sum_test (remainder s.g s.r u) (sum_at table c))
      (first-same cs (λ d i. h d (inr i)))

pub error_positions-located : (s : Params) (u table : List ℕ) → Bits u → length table ≡ length u → PositionPowers s.g s.r table
    → error_positions s u ≡ located table s.t (remainder s.g s.r u)
unfolding error_positions located
error_positions-located s u table hu e at =
    let ps : List ℕ = tabulate (length u) (λ j. j) in
    first-same s u table hu e at (choices s.t ps)
    (λ c i. let p = choices-sub ps s.t c i in let q : Positions (length u) s.t c = record { sub = p.0; few = p.1 } in positions-below q)
    ∙ ap (λ (n : ℕ). first_with_sum table (remainder s.g s.r u) (choices s.t (tabulate n (λ j. j)))) (sym e)
