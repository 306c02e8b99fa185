-- Words under Horner's rule.
--   sum_word          the sum of two words, position by position
--   horner_shift, horner_cons, remainder-sum
--   remainder_root   where g is 0, the remainder by g has the word's value
--   power_root, power-value   the values of the powers of x, modulo g and not
--   multiple, divides   g divides a word exactly when its remainder is 0
--   remainder-below  the remainder is below 2^r
-- Assumes nothing.
use mathlib.Core.Path.{◌≡◌, refl, sym, ap, ap₂, ◌∙◌}
use mathlib.Core.List.{List, [], ◌∷◌}
use Prim.Native.Nat.{ℕ, zero, suc, ◌*◌, ◌/◌, ◌%◌, ◌^◌, ◌<◌}
use native.Mathlib.Nat.{one-mul, mul-one, mul-zero, suc_inj, suc-ne-zero, le_refl, le_trans}
use lib.Pow.{pow_pos, pow_mono}
use lib.ListN.{length}
use Rattle.bch.specs.Polynomial.{Bits, ◌⊕◌, ◌⊗◌, times_x, iterate, poly_at, horner, word_poly, remainder}
use Rattle.bch.proofs.Sum.{⊕·simp, mod2_bit, ⊕_assoc, ⊕_comm, ⊕-self, ⊕-zero-right, ⊕_swap, ⊕-below, ⊕_double}
use Rattle.bch.proofs.Polynomial.{linear_zero, linear_bit, iterate_inner, iterate_double, poly_at-bit, poly_at_double, poly_at-sum, poly_at_linear, poly_at-map, poly_at-product, poly_at-zero, product_double, product-sum_l, product-bit, product-zero}
use Rattle.bch.proofs.Modulus.{times_x_linear, times_x-below, poly_at_modulus}

unfoldable pub sum_word : List ℕ → List ℕ → List ℕ
sum_word [] w = []
sum_word (a ∷ v) [] = []
sum_word (a ∷ v) (b ∷ w) = (a ⊕ b) ∷ sum_word v w

pub sum_word_length : (v w : List ℕ) → length v ≡ length w → length (sum_word v w) ≡ length v
unfolding sum_word
sum_word_length [] w h = refl
sum_word_length (a ∷ v) [] h = absurd (suc-ne-zero (length v) h)
sum_word_length (a ∷ v) (b ∷ w) h = ap suc (sum_word_length v w (suc_inj h))

pub sum_word_bits : (v w : List ℕ) → Bits v → Bits w → Bits (sum_word v w)
unfolding sum_word
sum_word_bits [] w hv hw k = hv k
sum_word_bits (a ∷ v) [] hv hw k = hw k
sum_word_bits (a ∷ v) (b ∷ w) hv hw zero = ⊕-below 1 a b (hv 0) (hw 0)
sum_word_bits (a ∷ v) (b ∷ w) hv hw (suc k) = sum_word_bits v w (λ j. hv (suc j)) (λ j. hw (suc j)) k

module _ (T : ℕ → ℕ) (lin : (a b : ℕ) → T (a ⊕ b) ≡ T a ⊕ T b) where
  horner-sum : (v w : List ℕ) (s u : ℕ) → length v ≡ length w → horner T (s ⊕ u) (sum_word v w) ≡ horner T s v ⊕ horner T u w
  unfolding horner sum_word
  horner-sum [] [] s u h = refl
  horner-sum [] (b ∷ w) s u h = absurd (suc-ne-zero (length w) (sym h))
  horner-sum (a ∷ v) [] s u h = absurd (suc-ne-zero (length v) h)
  horner-sum (a ∷ v) (b ∷ w) s u h =
      ap (λ n. horner T n (sum_word v w)) (ap (λ n. n ⊕ (a ⊕ b)) (lin s u) ∙ ⊕_swap (T s) (T u) a b)
      ∙ horner-sum v w (T s ⊕ a) (T u ⊕ b) (suc_inj h)

  -- what was taken in before goes up with each bit
  pub horner_shift : (w : List ℕ) (s u : ℕ) → horner T (s ⊕ u) w ≡ iterate T (length w) s ⊕ horner T u w
  unfolding horner iterate
  horner_shift [] s u = refl
  horner_shift (b ∷ w) s u =
      ap (λ n. horner T n w) (ap (λ n. n ⊕ b) (lin s u) ∙ ⊕_assoc (T s) (T u) b)
      ∙ horner_shift w (T s) (T u ⊕ b) ∙ ap (λ n. n ⊕ horner T (T u ⊕ b) w) (iterate_inner T (length w) s)

  pub horner_cons : (b : ℕ) (w : List ℕ) → horner T 0 (b ∷ w) ≡ iterate T (length w) b ⊕ horner T 0 w
  unfolding horner
  horner_cons b w =
      ap (λ n. horner T n w) (ap (λ n. n ⊕ b) (linear_zero T lin) ∙ ⊕_comm 0 b) ∙ horner_shift w b 0

  -- a map U that stands for T at 1 does so for whole words
  module _ (U : ℕ → ℕ) (stands : (s : ℕ) → poly_at T (U s) 1 ≡ T (poly_at T s 1)) where
    stands_for : (w : List ℕ) → Bits w → (s : ℕ) → poly_at T (horner U s w) 1 ≡ horner T (poly_at T s 1) w
    unfolding horner
    stands_for [] hw s = refl
    stands_for (b ∷ w) hw s =
        stands_for w (λ k. hw (suc k)) (U s ⊕ b)
        ∙ ap (λ n. horner T n w) (poly_at-sum T (U s) b 1 ∙ ap₂ ◌⊕◌ (stands s) (poly_at-bit T b 1 (hw 0) ∙ mul-one b))

    value : (w : List ℕ) → Bits w → poly_at T (horner U 0 w) 1 ≡ horner T 0 w
    value w hw = stands_for w hw 0 ∙ ap (λ n. horner T n w) (poly_at-zero T 1)

    stands_power : (e : ℕ) → poly_at T (iterate U e 1) 1 ≡ iterate T e 1
    unfolding iterate
    stands_power zero = poly_at-bit T 1 1 (le_refl 2)
    stands_power (suc e) = stands (iterate U e 1) ∙ ap T (stands_power e)

  double_stands : (s : ℕ) → poly_at T (s * 2) 1 ≡ T (poly_at T s 1)
  double_stands s = poly_at_double T s 1 ∙ sym (poly_at-map T lin s 1)

  root_stands : (g r : ℕ) → poly_at T g 1 ≡ 0 → (s : ℕ) → poly_at T (times_x g r s) 1 ≡ T (poly_at T s 1)
  unfolding times_x
  root_stands g r z s =
      poly_at-sum T (s * 2) ((s * 2 / 2 ^ r % 2) * g) 1
      ∙ ap₂ ◌⊕◌ (double_stands s)
      (linear_bit (λ n. poly_at T n 1) (λ a b. poly_at-sum T a b 1) (s * 2 / 2 ^ r % 2) g (mod2_bit (s * 2 / 2 ^ r)) ∙ ap (λ n. (s * 2 / 2 ^ r % 2) * n) z ∙ mul-zero (s * 2 / 2 ^ r % 2))
      ∙ ⊕-zero-right (T (poly_at T s 1))

  -- where g is 0, the remainder by g has the word's value
  pub remainder_root : (g r : ℕ) → poly_at T g 1 ≡ 0 → (w : List ℕ) → Bits w → poly_at T (remainder g r w) 1 ≡ horner T 0 w
  unfolding remainder
  remainder_root g r z w hw = value (times_x g r) (root_stands g r z) w hw

  -- and so has a power of x modulo g
  pub power_root : (g r : ℕ) → poly_at T g 1 ≡ 0 → (e : ℕ) → poly_at T (iterate (times_x g r) e 1) 1 ≡ iterate T e 1
  power_root g r z = stands_power (times_x g r) (root_stands g r z)

  pub power-value : (e : ℕ) → poly_at T (2 ^ e) 1 ≡ iterate T e 1
  power-value e = ap (λ n. poly_at T n 1) (sym (iterate_double e 1 ∙ one-mul (2 ^ e))) ∙ stands_power (λ v. v * 2) double_stands e

-- ---- division
module _ (g r : ℕ) where
  divide_step : (q s b : ℕ)
      → (q ⊗ g ⊕ s) * 2 ⊕ b ≡ (q * 2 ⊕ s * 2 / 2 ^ r % 2) ⊗ g ⊕ (times_x g r s ⊕ b)
  unfolding times_x
  divide_step q s b =
      let k : ℕ = s * 2 / 2 ^ r % 2 in
      ap (λ n. n ⊕ b) (⊕_double (q ⊗ g) s ∙ ap (λ n. n ⊕ s * 2) (sym (product_double q g)))
      ∙ sym (ap (λ n. n ⊕ (s * 2 ⊕ k * g ⊕ b)) (product-sum_l (q * 2) k g ∙ ap (λ n. q * 2 ⊗ g ⊕ n) (product-bit k g (mod2_bit (s * 2 / 2 ^ r)))) ∙ simp ⊕·simp)

  divide_from : (w : List ℕ) (q s : ℕ) → (p : ℕ) × (horner (λ v. v * 2) (q ⊗ g ⊕ s) w ≡ p ⊗ g ⊕ horner (times_x g r) s w)
  unfolding horner
  divide_from [] q s = (q, refl)
  divide_from (b ∷ w) q s =
      let (p, e) = divide_from w (q * 2 ⊕ s * 2 / 2 ^ r % 2) (times_x g r s ⊕ b) in
      (p, ap (λ n. horner (λ v. v * 2) n w) (divide_step q s b) ∙ e)

  -- every word is a multiple of g and its remainder
  divide : (w : List ℕ) → (p : ℕ) × (word_poly w ≡ p ⊗ g ⊕ remainder g r w)
  unfolding word_poly remainder
  divide w =
      let (p, e) = divide_from w 0 0 in
      (p, ap (λ n. horner (λ v. v * 2) n w) (sym (⊕-zero-right (0 ⊗ g) ∙ product-zero g)) ∙ e)

  pub multiple : (w : List ℕ) → remainder g r w ≡ 0 → (p : ℕ) × (word_poly w ≡ p ⊗ g)
  multiple w h = let (p, e) = divide w in (p, e ∙ ap (λ n. p ⊗ g ⊕ n) h ∙ ⊕-zero-right (p ⊗ g))

  module _ (pos : 0 < r) (deg : g / 2 ^ r ≡ 1) where
    pub divides : (w : List ℕ) → Bits w → (p : ℕ) → word_poly w ≡ p ⊗ g → remainder g r w ≡ 0
    unfolding word_poly remainder
    divides w hw p e =
        let T : ℕ → ℕ = times_x g r in
        sym (value T (times_x_linear g r) (λ v. v * 2) (double_stands T (times_x_linear g r)) w hw)
        ∙ ap (λ n. poly_at T n 1) e ∙ poly_at-product T (times_x_linear g r) p g 1 ∙ ap (poly_at T p) (poly_at_modulus g r deg pos) ∙ linear_zero (poly_at T p) (poly_at_linear T (times_x_linear g r) p)

    below-from : (w : List ℕ) → Bits w → (s : ℕ) → s < 2 ^ r → horner (times_x g r) s w < 2 ^ r
    unfolding horner
    below-from [] hw s h = h
    below-from (b ∷ w) hw s h =
        below-from w (λ k. hw (suc k)) (times_x g r s ⊕ b) (⊕-below r (times_x g r s) b (times_x-below g r deg s h) (le_trans (hw 0) (pow_mono pos)))

    pub remainder-below : (w : List ℕ) → Bits w → remainder g r w < 2 ^ r
    unfolding remainder
    remainder-below w hw = below-from w hw 0 (pow_pos r)

pub remainder-sum : (g r : ℕ) (v w : List ℕ) → length v ≡ length w → remainder g r (sum_word v w) ≡ remainder g r v ⊕ remainder g r w
unfolding remainder
remainder-sum g r v w h = ap (λ n. horner (times_x g r) n (sum_word v w)) (sym (⊕-self 0)) ∙ horner-sum (times_x g r) (times_x_linear g r) v w 0 0 h
