-- A number as a polynomial in a map, and products of polynomials.
--   linear_zero, linear_bit, iterate_linear   linear maps
--   iterate-add, iterate_inner, iterate-iterate, iterate_double   a map applied many times
--   half_and-bit                              a number by its half and its last digit
--   poly_at-step                               by the last digit: the law by which `poly_at` is used
--   poly_at-sum, poly_at_linear, poly_at-map, poly_at-horner, poly_at_comm
--   product_double, product-sum_l, product-bit, product-horner
--   poly_at-product                            a product of polynomials in a map is one after the other
-- Assumes nothing.
use mathlib.Core.Path.{◌≡◌, refl, sym, ap, ap₂, ◌∙◌}
use Prim.Native.Nat.{ℕ, zero, suc, ◌+◌, ◌*◌, ◌/◌, ◌%◌, ◌^◌, ◌≤◌, ◌<◌}
use native.Mathlib.Nat.{zero-lt-suc, zero-mul, one-mul, mul-one, mul_assoc, suc-mul, pow-suc, mul-div_cancel, mul-mod_left, div-add-mod', le_refl, zero-add, suc-add, add_comm, not-suc-le-zero, mod-eq_of_lt, div-eq_of_lt}
use native.Mathlib.Decide.{le_ind}
use lib.Arith.{bin_ind, half_le}
use lib.Bits.{xor_shifted}
use Rattle.bch.specs.Polynomial.{◌⊕◌, ◌⊗◌, iterate, poly_at_digits, poly_at}
use Rattle.bch.proofs.Sum.{⊕·simp, mod2_bit, bit_ind, ⊕_assoc, ⊕_comm, ⊕-left_comm, ⊕-self, ⊕-zero-left, ⊕-zero-right, ⊕_scale, bit_scale_⊕, ⊕_half, ⊕_double}

-- ---- linear maps
module _ (L : ℕ → ℕ) (lin : (a b : ℕ) → L (a ⊕ b) ≡ L a ⊕ L b) where
  pub linear_zero : L 0 ≡ 0
  linear_zero = ap L (sym (⊕-self 0)) ∙ lin 0 0 ∙ ⊕-self (L 0)

  pub linear_bit : (x v : ℕ) → x < 2 → L (x * v) ≡ x * L v
  linear_bit x v h = bit_ind (λ (x : ℕ). L (x * v) ≡ x * L v) (simp zero-mul linear_zero) (simp one-mul) x h

  pub iterate_linear : (j a b : ℕ) → iterate L j (a ⊕ b) ≡ iterate L j a ⊕ iterate L j b
  unfolding iterate
  iterate_linear zero a b = refl
  iterate_linear (suc j) a b = ap L (iterate_linear j a b) ∙ lin (iterate L j a) (iterate L j b)

pub iterate-add : (T : ℕ → ℕ) (i j v : ℕ) → iterate T (i + j) v ≡ iterate T i (iterate T j v)
unfolding iterate
iterate-add T zero j v = ap (λ (n : ℕ). iterate T n v) (zero-add j)
iterate-add T (suc i) j v = ap (λ (n : ℕ). iterate T n v) (suc-add i j) ∙ ap T (iterate-add T i j v)

pub iterate_inner : (T : ℕ → ℕ) (j v : ℕ) → iterate T j (T v) ≡ T (iterate T j v)
unfolding iterate
iterate_inner T zero v = refl
iterate_inner T (suc j) v = ap T (iterate_inner T j v)

pub iterate-iterate : (T : ℕ → ℕ) (i k v : ℕ) → iterate (iterate T i) k v ≡ iterate T (k * i) v
unfolding iterate
iterate-iterate T i zero v = ap (λ n. iterate T n v) (sym (zero-mul i))
iterate-iterate T i (suc k) v =
    ap (iterate T i) (iterate-iterate T i k v) ∙ sym (iterate-add T i (k * i) v) ∙ ap (λ n. iterate T n v) (add_comm i (k * i) ∙ sym (suc-mul k i))

pub iterate_double : (n b : ℕ) → iterate (λ v. v * 2) n b ≡ b * 2 ^ n
unfolding iterate
iterate_double zero b = sym (mul-one b)
iterate_double (suc n) b = ap (λ v. v * 2) (iterate_double n b) ∙ mul_assoc b (2 ^ n) 2 ∙ ap (λ v. b * v) (sym (pow-suc 2 n))

pub half_and-bit : (p : ℕ) → p / 2 * 2 ⊕ p % 2 ≡ p
unfolding ◌⊕◌
half_and-bit p = xor_shifted (p / 2) 1 (p % 2) (mod2_bit p) ∙ div-add-mod' p 2

module _ (T : ℕ → ℕ) where
  more : (n p v : ℕ) → p ≤ n → poly_at_digits T (suc n) p v ≡ poly_at_digits T n p v
  unfolding poly_at_digits
  more zero zero v h = refl
  more zero (suc p) v h = absurd (not-suc-le-zero h)
  more (suc n) zero v h = refl
  more (suc n) (suc p) v h = ap (λ (x : ℕ). (suc p % 2) * v ⊕ x) (more n (suc p / 2) (T v) (half_le h))

  enough : (n p v : ℕ) → p ≤ n → poly_at_digits T n p v ≡ poly_at_digits T p p v
  enough n p v h = le_ind (λ (m : ℕ). poly_at_digits T m p v ≡ poly_at_digits T p p v) refl (λ m k e. more m p v k ∙ e) n h

  pub poly_at-zero : (v : ℕ) → poly_at T 0 v ≡ 0
  unfolding poly_at poly_at_digits
  poly_at-zero v = refl

  pub poly_at-step : (p v : ℕ) → poly_at T p v ≡ (p % 2) * v ⊕ poly_at T (p / 2) (T v)
  unfolding poly_at poly_at_digits
  poly_at-step zero v = sym (simp (zero-mul, ⊕·simp))
  poly_at-step (suc p) v = ap (λ (x : ℕ). (suc p % 2) * v ⊕ x) (enough p (suc p / 2) (T v) (half_le (le_refl (suc p))))

  pub poly_at-bit : (b v : ℕ) → b < 2 → poly_at T b v ≡ b * v
  poly_at-bit b v h = poly_at-step b v ∙ simp (mod-eq_of_lt h, div-eq_of_lt h, poly_at-zero, ⊕-zero-right)

  pub poly_at_double : (p v : ℕ) → poly_at T (p * 2) v ≡ poly_at T p (T v)
  poly_at_double p v = poly_at-step (p * 2) v ∙ simp (mul-mod_left p 2, mul-div_cancel p (zero-lt-suc 1), zero-mul, ⊕-zero-left)

  pub poly_at-sum : (p q v : ℕ) → poly_at T (p ⊕ q) v ≡ poly_at T p v ⊕ poly_at T q v
  poly_at-sum =
      bin_ind (λ (p : ℕ). (q v : ℕ) → poly_at T (p ⊕ q) v ≡ poly_at T p v ⊕ poly_at T q v)
      (λ q v. simp (poly_at-zero, ⊕-zero-left))
      (λ p ih q v.
      poly_at-step (p ⊕ q) v ∙ ap₂ ◌⊕◌ (⊕_scale p q v) (ap (λ (n : ℕ). poly_at T n (T v)) (⊕_half p q) ∙ ih (q / 2) (T v))
      ∙ sym (ap₂ ◌⊕◌ (poly_at-step p v) (poly_at-step q v) ∙ simp (⊕_assoc, ⊕-left_comm)))

  module _ (lin : (a b : ℕ) → T (a ⊕ b) ≡ T a ⊕ T b) where
    pub poly_at_linear : (p a b : ℕ) → poly_at T p (a ⊕ b) ≡ poly_at T p a ⊕ poly_at T p b
    poly_at_linear =
        bin_ind (λ (p : ℕ). (a b : ℕ) → poly_at T p (a ⊕ b) ≡ poly_at T p a ⊕ poly_at T p b) (λ a b. simp (poly_at-zero, ⊕-zero-left))
        (λ p ih a b.
        poly_at-step p (a ⊕ b) ∙ ap₂ ◌⊕◌ (bit_scale_⊕ (p % 2) a b (mod2_bit p)) (ap (poly_at T (p / 2)) (lin a b) ∙ ih (T a) (T b))
        ∙ sym (ap₂ ◌⊕◌ (poly_at-step p a) (poly_at-step p b) ∙ simp (⊕_assoc, ⊕-left_comm)))

    pub poly_at-map : (p v : ℕ) → T (poly_at T p v) ≡ poly_at T p (T v)
    poly_at-map =
        bin_ind (λ (p : ℕ). (v : ℕ) → T (poly_at T p v) ≡ poly_at T p (T v)) (λ v. simp poly_at-zero (linear_zero T lin))
        (λ p ih v.
        ap T (poly_at-step p v) ∙ lin ((p % 2) * v) (poly_at T (p / 2) (T v)) ∙ ap₂ ◌⊕◌ (linear_bit T lin (p % 2) v (mod2_bit p)) (ih (T v))
        ∙ sym (poly_at-step p (T v)))

    -- from the highest digit down
    pub poly_at-horner : (p v : ℕ) → poly_at T p v ≡ T (poly_at T (p / 2) v) ⊕ (p % 2) * v
    poly_at-horner p v = poly_at-step p v ∙ ⊕_comm ((p % 2) * v) (poly_at T (p / 2) (T v)) ∙ ap (λ (x : ℕ). x ⊕ (p % 2) * v) (sym (poly_at-map (p / 2) v))

    -- polynomials in one map commute
    pub poly_at_comm : (p q v : ℕ) → poly_at T p (poly_at T q v) ≡ poly_at T q (poly_at T p v)
    poly_at_comm =
        bin_ind (λ (p : ℕ). (q v : ℕ) → poly_at T p (poly_at T q v) ≡ poly_at T q (poly_at T p v)) (λ q v. simp poly_at-zero (sym (linear_zero (poly_at T q) (poly_at_linear q))))
        (λ p ih q v.
        poly_at-step p (poly_at T q v)
        ∙ ap₂ ◌⊕◌ (sym (linear_bit (poly_at T q) (poly_at_linear q) (p % 2) v (mod2_bit p))) (ap (poly_at T (p / 2)) (poly_at-map q v) ∙ ih q (T v))
        ∙ sym (ap (poly_at T q) (poly_at-step p v) ∙ poly_at_linear q ((p % 2) * v) (poly_at T (p / 2) (T v))))

-- ---- products of polynomials
pub product-zero : (q : ℕ) → 0 ⊗ q ≡ 0
unfolding ◌⊗◌
product-zero q = poly_at-zero (λ v. v * 2) q

product-step : (p q : ℕ) → p ⊗ q ≡ (p % 2) * q ⊕ p / 2 ⊗ (q * 2)
unfolding ◌⊗◌
product-step p q = poly_at-step (λ v. v * 2) p q

-- the first factor doubled, and a sum in either factor
pub product_double : (p q : ℕ) → p * 2 ⊗ q ≡ (p ⊗ q) * 2
unfolding ◌⊗◌
product_double p q = poly_at_double (λ v. v * 2) p q ∙ sym (poly_at-map (λ v. v * 2) ⊕_double p q)

pub product-sum_l : (p p' q : ℕ) → (p ⊕ p') ⊗ q ≡ p ⊗ q ⊕ p' ⊗ q
unfolding ◌⊗◌
product-sum_l p p' q = poly_at-sum (λ v. v * 2) p p' q

pub product-bit : (b q : ℕ) → b < 2 → b ⊗ q ≡ b * q
unfolding ◌⊗◌
product-bit = poly_at-bit (λ v. v * 2)

pub product-horner : (p q : ℕ) → p ⊗ q ≡ (p / 2 ⊗ q) * 2 ⊕ (p % 2) * q
unfolding ◌⊗◌
product-horner = poly_at-horner (λ v. v * 2) ⊕_double

-- a product of polynomials in a map is one after the other
module _ (T : ℕ → ℕ) (lin : (a b : ℕ) → T (a ⊕ b) ≡ T a ⊕ T b) where
  pub poly_at-product : (p q v : ℕ) → poly_at T (p ⊗ q) v ≡ poly_at T p (poly_at T q v)
  poly_at-product =
      bin_ind (λ (p : ℕ). (q v : ℕ) → poly_at T (p ⊗ q) v ≡ poly_at T p (poly_at T q v)) (λ q v. simp (product-zero, poly_at-zero))
      (λ p ih q v.
      ap (λ (n : ℕ). poly_at T n v) (product-step p q) ∙ poly_at-sum T ((p % 2) * q) (p / 2 ⊗ (q * 2)) v
      ∙ ap₂ ◌⊕◌
      (linear_bit (λ n. poly_at T n v) (λ a b. poly_at-sum T a b v) (p % 2) q (mod2_bit p))
      (ih (q * 2) v ∙ ap (poly_at T (p / 2)) (poly_at_double T q v ∙ sym (poly_at-map T lin q v)))
      ∙ sym (poly_at-step T p (poly_at T q v)))
