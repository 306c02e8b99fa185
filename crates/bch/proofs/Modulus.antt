-- x times a number modulo a polynomial f of degree d, written f / 2 ^ d ≡ 1.
--   below_of_quotient             a number with no digit from d on
--   poly_at-within                 a map that stays below 2^d, and so its polynomials
--   times_x_linear, times_x-small, times_x-below
--   iterate-times_x_linear, iterate-times_x-below   the same of x^j times a number
--   poly_at_one, poly_at-below      a number below 2^d is what it says as a polynomial in x
--   degree_high, degree_low       the bounds of f
--   poly_at_modulus                f is 0 modulo itself
-- Assumes nothing.
use mathlib.Core.Path.{◌≡◌, sym, ap, ap₂, ◌∙◌, subst⁻¹}
use Prim.Native.Nat.{ℕ, zero, suc, ◌*◌, ◌/◌, ◌%◌, ◌^◌, ◌≤◌, ◌<◌}
use native.Mathlib.Nat.{zero-mul, one-mul, div-add-mod', not-suc-le-zero, mod-eq_of_lt, div-eq_of_lt, mul-one, div-lt_iff_lt-mul, pow-suc, div-le_self, lt_of_le_of_lt, zero-div, le-div_iff_mul-le, div-eq_of_lt-le}
use native.Mathlib.Omega.{arith}
use lib.Arith.{bin_ind}
use lib.Pow.{pow_pos}
use Rattle.bch.specs.Polynomial.{◌⊕◌, times_x, iterate, poly_at}
use Rattle.bch.proofs.Sum.{mod2_bit, bit_ind, bit_below, ⊕_assoc, ⊕_comm, ⊕-left_comm, ⊕-self, ⊕-zero-right, ⊕_scale, ⊕_double, ⊕_shift, ⊕-below}
use Rattle.bch.proofs.Polynomial.{iterate_linear, half_and-bit, poly_at-zero, poly_at-step, poly_at-horner}

pow_even : (d : ℕ) → 0 < d → (h : ℕ) × (2 ^ d ≡ h * 2)
pow_even zero pos = absurd (not-suc-le-zero pos)
pow_even (suc e) pos = (2 ^ e, pow-suc 2 e)

pub below_of_quotient : (d n : ℕ) → n / 2 ^ d ≡ 0 → n < 2 ^ d
below_of_quotient d n e = let h : n / 2 ^ d < 1 = omega arith in rw one-mul at ((div-lt_iff_lt-mul (pow_pos d)).0 h)

pub poly_at-within : (d : ℕ) (T : ℕ → ℕ) → ((v : ℕ) → v < 2 ^ d → T v < 2 ^ d) → (p v : ℕ) → v < 2 ^ d → poly_at T p v < 2 ^ d
poly_at-within d T within =
    bin_ind (λ (p : ℕ). (v : ℕ) → v < 2 ^ d → poly_at T p v < 2 ^ d) (λ v h. subst⁻¹ (λ (n : ℕ). n < 2 ^ d) (poly_at-zero T v) (pow_pos d))
    (λ p ih v h.
    subst⁻¹ (λ (n : ℕ). n < 2 ^ d) (poly_at-step T p v)
    (⊕-below d ((p % 2) * v) (poly_at T (p / 2) (T v)) (bit_below d (p % 2) v (mod2_bit p) h) (ih (T v) (within v h))))

module _ (f d : ℕ) where
  pub times_x_linear : (a b : ℕ) → times_x f d (a ⊕ b) ≡ times_x f d a ⊕ times_x f d b
  unfolding times_x
  times_x_linear a b =
      ap₂ ◌⊕◌ (⊕_double a b)
      (ap (λ (n : ℕ). n / 2 ^ d % 2 * f) (⊕_double a b) ∙ ap (λ (n : ℕ). n % 2 * f) (⊕_shift (a * 2) (b * 2) d)
      ∙ ⊕_scale (a * 2 / 2 ^ d) (b * 2 / 2 ^ d) f)
      ∙ simp (⊕_assoc, ⊕-left_comm)

  pub iterate-times_x_linear : (j a b : ℕ) → iterate (times_x f d) j (a ⊕ b) ≡ iterate (times_x f d) j a ⊕ iterate (times_x f d) j b
  iterate-times_x_linear = iterate_linear (times_x f d) times_x_linear

  -- nothing to take away
  pub times_x-small : (v : ℕ) → v * 2 < 2 ^ d → times_x f d v ≡ v * 2
  unfolding times_x
  times_x-small v h = simp (div-eq_of_lt h, zero-mul, ⊕-zero-right)

  module _ (deg : f / 2 ^ d ≡ 1) where
    bit-div : (x : ℕ) → x < 2 → x * f / 2 ^ d ≡ x
    bit-div = bit_ind (λ (x : ℕ). x * f / 2 ^ d ≡ x) (simp (zero-mul, zero-div)) (simp one-mul deg)

    pub times_x-below : (v : ℕ) → v < 2 ^ d → times_x f d v < 2 ^ d
    unfolding times_x
    times_x-below v h =
        below_of_quotient d (times_x f d v)
        (⊕_shift (v * 2) ((v * 2 / 2 ^ d % 2) * f) d
        ∙ ap₂ ◌⊕◌ (sym (mod-eq_of_lt ((div-lt_iff_lt-mul (pow_pos d)).1 (omega arith)))) (bit-div (v * 2 / 2 ^ d % 2) (mod2_bit (v * 2 / 2 ^ d)))
        ∙ ⊕-self (v * 2 / 2 ^ d % 2))

    pub iterate-times_x-below : (j v : ℕ) → v < 2 ^ d → iterate (times_x f d) j v < 2 ^ d
    unfolding iterate
    iterate-times_x-below zero v h = h
    iterate-times_x-below (suc j) v h = times_x-below (iterate (times_x f d) j v) (iterate-times_x-below j v h)

    pub poly_at_one : (p : ℕ) → p < 2 ^ d → poly_at (times_x f d) p 1 ≡ p
    poly_at_one =
        bin_ind (λ (p : ℕ). p < 2 ^ d → poly_at (times_x f d) p 1 ≡ p) (λ h. poly_at-zero (times_x f d) 1)
        (λ p ih h.
        poly_at-horner (times_x f d) times_x_linear p 1
        ∙ ap₂ ◌⊕◌ (ap (times_x f d) (ih (lt_of_le_of_lt (div-le_self p 2) h)) ∙ times_x-small (p / 2) (omega (arith, div-add-mod' p 2))) (mul-one (p % 2))
        ∙ half_and-bit p)

    pub poly_at-below : (p v : ℕ) → v < 2 ^ d → poly_at (times_x f d) p v < 2 ^ d
    poly_at-below = poly_at-within d (times_x f d) times_x-below

    pub degree_high : f < 2 * 2 ^ d
    degree_high = let h : f / 2 ^ d < 2 = omega arith in (div-lt_iff_lt-mul (pow_pos d)).0 h

    pub degree_low : 2 ^ d ≤ f
    degree_low = let h : 1 ≤ f / 2 ^ d = omega arith in rw one-mul at ((le-div_iff_mul-le (pow_pos d)).0 h)

    pub poly_at_modulus : 0 < d → poly_at (times_x f d) f 1 ≡ 0
    unfolding times_x
    poly_at_modulus pos =
        let (e, even) = pow_even d pos in
        let top : f / 2 * 2 / 2 ^ d ≡ 1 = div-eq_of_lt-le (2 ^ d) (omega (arith, degree_low)) (omega (arith, degree_high)) in
        poly_at-horner (times_x f d) times_x_linear f 1
        ∙ ap₂ ◌⊕◌ (ap (times_x f d) (poly_at_one (f / 2) (omega (arith, degree_high)))) (mul-one (f % 2))
        ∙ ap (λ (n : ℕ). f / 2 * 2 ⊕ (n % 2) * f ⊕ f % 2) top
        ∙ simp (one-mul, ⊕_assoc) (simp (⊕_comm f (f % 2)) (sym (⊕_assoc (f / 2 * 2) (f % 2) f) ∙ ap (λ (n : ℕ). n ⊕ f) (half_and-bit f) ∙ ⊕-self f))
