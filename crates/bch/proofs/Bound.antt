-- The BCH bound, for any polynomial that is 0 at the odd powers below 2t.
--   locators       the powers that the ones of a word carry
--   light          a word with at most n ones is 0 if its values at the first n powers are
--   even-values    the values at the odd powers settle those at the even ones
--   near_equal     the bound: codewords that differ in at most 2t positions are equal
--   near_one       at most one codeword lies within t changes of a word
-- Assumes nothing.
use mathlib.Core.Path.{◌≡◌, refl, sym, ap, ap₂, ◌∙◌}
use mathlib.Core.Logic.{◌≢◌}
use mathlib.Core.List.{List, [], ◌∷◌}
use Prim.Native.Nat.{ℕ, zero, suc, ◌+◌, ◌-◌, ◌*◌, ◌/◌, ◌%◌, ◌^◌, ◌≤◌, ◌<◌}
use native.Mathlib.Nat.{suc_inj, suc-ne-zero, le_refl, le_trans, not-suc-le-zero, zero-lt-suc}
use native.Mathlib.Decide.{ℕ_discrete}
use native.Mathlib.Omega.{arith}
use lib.Arith.{bin_ind}
use lib.ListN.{length}
use Rattle.bch.specs.Polynomial.{Bits, ◌⊕◌, times_x, iterate, poly_at, horner, remainder}
use Rattle.bch.specs.Code.{distance, unlike}
use Rattle.bch.proofs.Sum.{bit_ind, ⊕-self, ⊕-zero-right, ⊕-below}
use Rattle.bch.proofs.Polynomial.{linear_zero, iterate-add, iterate-iterate, poly_at-zero}
use Rattle.bch.proofs.Modulus.{iterate-times_x_linear, iterate-times_x-below}
use Rattle.bch.proofs.Field.{Primitive, mul, field, two_below, power_below, iterate-mul, power_injective, power_nonzero}
use Rattle.bch.proofs.Algebra.{square_sum, mul-zero, mul_left_comm}
use Rattle.bch.proofs.Vandermonde.{All, Distinct, power_sum, vandermonde}
use Rattle.bch.proofs.Distance.{distance_comm, distance_triangle, distance-zero}
use Rattle.bch.proofs.Word.{sum_word, sum_word_length, sum_word_bits, horner_cons, remainder_root, remainder-sum}

locators : (ℕ → ℕ) → List ℕ → List ℕ
locators X [] = []
locators X (zero ∷ w) = locators X w
locators X (suc b ∷ w) = iterate X (length w) 1 ∷ locators X w

module _ (f d : ℕ) (P : Primitive f d) where
  abbrev X : ℕ → ℕ
  X = times_x f d

  -- ---- values of a word are power sums
  steps_below : (k i v : ℕ) → v < 2 ^ d → iterate (iterate X k) i v < 2 ^ d
  steps_below k i v h = rw (iterate-iterate X k i v) (iterate-times_x-below f d P.degree (i * k) v h)

  iterated : (k i v : ℕ) → v < 2 ^ d → iterate (mul f d (iterate X k 1)) i v ≡ iterate (iterate X k) i v
  unfolding iterate
  iterated k zero v h = refl
  iterated k (suc i) v h =
      ap (mul f d (iterate X k 1)) (iterated k i v h)
      ∙ sym (iterate-mul f d P k (iterate (iterate X k) i v) (steps_below k i v h))

  term : (k i : ℕ)
      → iterate (mul f d (iterate X k 1)) i (mul f d 1 (iterate X k 1)) ≡ iterate (iterate X (suc i)) k 1
  term k i =
      ap (iterate (mul f d (iterate X k 1)) i) ((field f d P).mul-one (iterate X k 1) (power_below f d P k))
      ∙ iterated k i (iterate X k 1) (power_below f d P k)
      ∙ iterate-iterate X k i (iterate X k 1)
      ∙ sym (iterate-add X (i * k) k 1)
      ∙ ap (λ n. iterate X n 1) (omega arith)
      ∙ sym (iterate-iterate X (suc i) k 1)

  power-sums : (i : ℕ) (w : List ℕ) → Bits w → power_sum (mul f d) (mul f d 1) i (locators X w) ≡ horner (iterate X (suc i)) 0 w
  unfolding locators power_sum horner
  power-sums i [] h = refl
  power-sums i (zero ∷ w) h =
      power-sums i w (λ k. h (suc k))
      ∙ ap (λ n. horner (iterate X (suc i)) n w) (sym (⊕-zero-right (iterate X (suc i) 0) ∙ linear_zero (iterate X (suc i)) (iterate-times_x_linear f d (suc i))))
  power-sums i (suc zero ∷ w) h =
      ap₂ ◌⊕◌ (term (length w) i) (power-sums i w (λ k. h (suc k)))
      ∙ sym (horner_cons (iterate X (suc i)) (iterate-times_x_linear f d (suc i)) 1 w)
  power-sums i (suc (suc b) ∷ w) h = absurd (omega (arith, h 0))

  -- ---- the locators differ
  loc_below : (w : List ℕ) → All (λ x. x < 2 ^ d) (locators X w)
  unfolding locators
  loc_below [] = tt
  loc_below (zero ∷ w) = loc_below w
  loc_below (suc b ∷ w) = (power_below f d P (length w), loc_below w)

  loc_apart : (k : ℕ) → k < 2 ^ d - 1 → (w : List ℕ) → length w ≤ k → All (λ y. y ≢ iterate X k 1) (locators X w)
  unfolding locators
  loc_apart k l [] h = tt
  loc_apart k l (zero ∷ w) h = loc_apart k l w (omega arith)
  loc_apart k l (suc b ∷ w) h = (
    λ e. let q : length w ≡ k = power_injective f d P (length w) k (omega arith) l e in omega arith,
    loc_apart k l w (omega arith),
  )

  loc_distinct : (w : List ℕ) → length w ≤ 2 ^ d - 1 → Distinct (locators X w)
  unfolding locators
  loc_distinct [] h = tt
  loc_distinct (zero ∷ w) h = loc_distinct w (omega arith)
  loc_distinct (suc b ∷ w) h = (loc_apart (length w) h w (le_refl (length w)), loc_distinct w (omega arith))

  none : (w : List ℕ) → All (λ x. mul f d 1 x ≡ 0) (locators X w) → length (locators X w) ≡ 0
  unfolding locators
  none [] z = refl
  none (zero ∷ w) z = none w z
  none (suc b ∷ w) z =
      absurd (power_nonzero f d P (length w) (sym ((field f d P).mul-one (iterate X (length w) 1) (power_below f d P (length w))) ∙ z.0))

  light : (n : ℕ) (w : List ℕ) → Bits w → length w ≤ 2 ^ d - 1 → length (locators X w) ≤ n
      → ((i : ℕ) → i < n → horner (iterate X (suc i)) 0 w ≡ 0) → length (locators X w) ≡ 0
  light n w hw hl hn h =
      none w
      (vandermonde d (mul f d) (field f d P) (locators X w) (mul f d 1) (loc_below w) (loc_distinct w hl) ((field f d P).mul-below 1)
      (λ i l. power-sums i w hw ∙ h i (omega arith)))

  -- ---- squares
  square_bit : (b : ℕ) → b < 2 → mul f d b b ≡ b
  square_bit b h = bit_ind (λ (b : ℕ). mul f d b b ≡ b) (mul-zero d (mul f d) (field f d P) 0) ((field f d P).mul-one 1 (two_below f d P)) b h

  square_times : (i a : ℕ) → a < 2 ^ d → mul f d (iterate X i a) (iterate X i a) ≡ iterate X (i + i) (mul f d a a)
  square_times i a h =
      let F = field f d P in
      let p : ℕ = iterate X i 1 in
      let q : ℕ = mul f d a a in
      ap (λ n. mul f d n n) (iterate-mul f d P i a h)
      ∙ F.mul_assoc p a (mul f d p a) ∙ ap (mul f d p) (mul_left_comm d (mul f d) F a p a)
      ∙ sym (iterate-add X i i q ∙ ap (iterate X i) (iterate-mul f d P i q (F.mul-below a a)) ∙ iterate-mul f d P i (mul f d p q) (F.mul-below p q))

  square_value : (i : ℕ) (w : List ℕ) → Bits w → (s : ℕ) → s < 2 ^ d
      → mul f d (horner (iterate X i) s w) (horner (iterate X i) s w) ≡ horner (iterate X (i + i)) (mul f d s s) w
  unfolding horner
  square_value i [] hw s h = refl
  square_value i (b ∷ w) hw s h =
      square_value i w (λ k. hw (suc k)) (iterate X i s ⊕ b) (⊕-below d (iterate X i s) b (iterate-times_x-below f d P.degree i s h) (le_trans (hw 0) (two_below f d P)))
      ∙ ap (λ n. horner (iterate X (i + i)) n w)
      (square_sum d (mul f d) (field f d P) (iterate X i s) b ∙ ap₂ ◌⊕◌ (square_times i s h) (square_bit b (hw 0)))

  even-values : (n : ℕ) (w : List ℕ) → Bits w → ((i : ℕ) → i % 2 ≡ 1 → i < n → horner (iterate X i) 0 w ≡ 0)
      → (i : ℕ) → 0 < i → i < n → horner (iterate X i) 0 w ≡ 0
  even-values n w hw odd =
      bin_ind (λ (i : ℕ). 0 < i → i < n → horner (iterate X i) 0 w ≡ 0) (λ h l. absurd (not-suc-le-zero h))
      (λ i ih h l. go i (ih) h l (ℕ_discrete (i % 2) 1))
    where
      go : (i : ℕ) → (0 < i / 2 → i / 2 < n → horner (iterate X (i / 2)) 0 w ≡ 0) → 0 < i → i < n → Dec (i % 2 ≡ 1)
          → horner (iterate X i) 0 w ≡ 0
      go i ih h l (yes e) = odd i e l
      go i ih h l (no ne) =
          ap (λ k. horner (iterate X k) 0 w) (omega arith)
          ∙ ap (λ s. horner (iterate X (i / 2 + i / 2)) s w) (sym (mul-zero d (mul f d) (field f d P) 0))
          ∙ sym (square_value (i / 2) w hw 0 (le_trans (zero-lt-suc 1) (two_below f d P)))
          ∙ ap (λ v. mul f d v v) (ih (omega arith) (omega arith))
          ∙ mul-zero d (mul f d) (field f d P) 0

  -- ---- distances
  loc_cons : (a b : ℕ) → a < 2 → b < 2 → (u : List ℕ) → length (locators X ((a ⊕ b) ∷ u)) ≡ unlike a b + length (locators X u)
  unfolding ◌⊕◌ locators unlike
  loc_cons a b ha hb u =
      bit_ind (λ (a : ℕ). length (locators X ((a ⊕ b) ∷ u)) ≡ unlike a b + length (locators X u))
      (bit_ind (λ (b : ℕ). length (locators X ((0 ⊕ b) ∷ u)) ≡ unlike 0 b + length (locators X u)) (omega arith) (omega arith) b hb)
      (bit_ind (λ (b : ℕ). length (locators X ((1 ⊕ b) ∷ u)) ≡ unlike 1 b + length (locators X u)) (omega arith) (omega arith) b hb)
      a ha

  loc_distance : (v w : List ℕ) → Bits v → Bits w → length v ≡ length w → length (locators X (sum_word v w)) ≡ distance v w
  unfolding sum_word distance locators
  loc_distance [] w hv hw h = refl
  loc_distance (a ∷ v) [] hv hw h = absurd (suc-ne-zero (length v) h)
  loc_distance (a ∷ v) (b ∷ w) hv hw h =
      loc_cons a b (hv 0) (hw 0) (sum_word v w) ∙ ap (λ n. unlike a b + n) (loc_distance v w (λ k. hv (suc k)) (λ k. hw (suc k)) (suc_inj h))

  module _ (g r t : ℕ) (roots : (i : ℕ) → i % 2 ≡ 1 → i < 2 * t → poly_at (iterate (times_x f d) i) g 1 ≡ 0) where
    codeword_values : (w : List ℕ) → Bits w → remainder g r w ≡ 0 → (i : ℕ) → 0 < i → i < 2 * t + 1 → horner (iterate X i) 0 w ≡ 0
    codeword_values w hw hc =
        even-values (2 * t + 1) w hw
        (λ i o l.
        sym (remainder_root (iterate X i) (iterate-times_x_linear f d i) g r (roots i o (omega arith)) w hw)
        ∙ ap (λ n. poly_at (iterate X i) n 1) hc ∙ poly_at-zero (iterate X i) 1)

    pub near_equal : (v w : List ℕ) → Bits v → Bits w → length v ≡ length w → length v ≤ 2 ^ d - 1
        → remainder g r v ≡ 0 → remainder g r w ≡ 0 → distance v w ≤ 2 * t → v ≡ w
    near_equal v w hv hw e l cv cw h =
        let u : List ℕ = sum_word v w in
        let hu : Bits u = sum_word_bits v w hv hw in
        let cu : remainder g r u ≡ 0 = remainder-sum g r v w e ∙ ap₂ ◌⊕◌ cv cw ∙ ⊕-self 0 in
        let n : length (locators X u) ≡ distance v w = loc_distance v w hv hw e in
        distance-zero v w e
        (sym n ∙ light (2 * t) u hu (omega (arith, sum_word_length v w e)) (omega arith) (λ i k. codeword_values u hu cu (suc i) (zero-lt-suc i) (omega arith)))

    pub near_one : (u v w : List ℕ) → Bits v → Bits w → length u ≡ length v → length u ≡ length w → length u ≤ 2 ^ d - 1
        → remainder g r v ≡ 0 → remainder g r w ≡ 0 → distance u v ≤ t → distance u w ≤ t → v ≡ w
    near_one u v w hv hw ev ew l cv cw dv dw =
        near_equal v w hv hw (sym ev ∙ ew) (omega arith) cv cw (omega (arith, distance_triangle v u w (sym ev) ew, distance_comm v u))
