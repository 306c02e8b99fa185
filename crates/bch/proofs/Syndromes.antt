-- The values of a polynomial at the root and at its cube, in one number.
--   value-below      values are field elements
--   syndromes-sum    the values of a sum
--   syndromes-low, syndromes-high   the two values taken apart
--   syndromes-bits   the values of a number, bit by bit
--   value-bits       one value of a number, bit by bit
--   first-value, third-value, fifth_value   the values of a power of x modulo the generator
-- Assumes nothing.
use mathlib.Core.Path.{◌≡◌, refl, sym, ap, ap₂, ◌∙◌}
use Prim.Native.Nat.{ℕ, ◌+◌, ◌*◌, ◌/◌, ◌%◌, ◌^◌, ◌≤◌, ◌<◌}
use native.Mathlib.Nat.{mul_comm, one-mul, le_trans}
use native.Mathlib.Omega.{arith}
use lib.Pow.{pow_mono}
use lib.Bits.{xor_block}
use Rattle.bch.specs.Polynomial.{◌⊕◌, times_x, iterate}
use Rattle.bch.specs.Field.{field_poly, power, value_at}
use Rattle.bch.specs.Code.{generator}
use Rattle.bch.specs.Powers.{power_mod, xor_sum}
use Rattle.bch.specs.Locator.{syndromes, power_syndromes}
use Rattle.bch.proofs.Polynomial.{iterate-iterate, poly_at-sum}
use Rattle.bch.proofs.Modulus.{iterate-times_x_linear, iterate-times_x-below, poly_at-within}
use Rattle.bch.proofs.Field.{two_below}
use Rattle.bch.proofs.Primitive.{primitive}
use Rattle.bch.proofs.Generator.{generator_roots}
use Rattle.bch.proofs.Word.{power_root, power-value}
use Rattle.bch.proofs.PowerSum.{linear_bits}
use Rattle.bch.proofs.Bch.{Code}

value-sum : (m i a b : ℕ) → value_at m i (a ⊕ b) ≡ value_at m i a ⊕ value_at m i b
unfolding value_at
value-sum m i a b = poly_at-sum (iterate (times_x (field_poly m) m) i) a b 1

-- the powers of a power of the root
power-power : (m i e : ℕ) → iterate (iterate (times_x (field_poly m) m) i) e 1 ≡ power m (i * e)
unfolding power
power-power m i e = iterate-iterate (times_x (field_poly m) m) i e 1 ∙ ap (power m) (mul_comm e i)

value-power : (m i e : ℕ) → value_at m i (2 ^ e) ≡ power m (i * e)
unfolding value_at
value-power m i e = power-value (iterate (times_x (field_poly m) m) i) (iterate-times_x_linear (field_poly m) m i) e ∙ power-power m i e

pub value-bits : (m i r x : ℕ) → x < 2 ^ r → value_at m i x ≡ xor_sum r (λ k. (x / 2 ^ k % 2) * power m (i * k))
value-bits m i r = linear_bits r (value_at m i) (value-sum m i) (λ k. power m (i * k)) (λ k l. value-power m i k)

value_root : (m i g r : ℕ) → value_at m i g ≡ 0 → (e : ℕ) → value_at m i (power_mod g r e) ≡ power m (i * e)
unfolding value_at power_mod
value_root m i g r z e = power_root (iterate (times_x (field_poly m) m) i) (iterate-times_x_linear (field_poly m) m i) g r z e ∙ power-power m i e

module _ (m : ℕ) (low : 4 ≤ m) (high : m ≤ 10) where
  pub value-below : (i p : ℕ) → value_at m i p < 2 ^ m
  unfolding value_at
  value-below i p =
      poly_at-within m (iterate (times_x (field_poly m) m) i) (iterate-times_x-below (field_poly m) m (primitive m low high).degree i) p 1
      (two_below (field_poly m) m (primitive m low high))

  value-small : (i p : ℕ) → value_at m i p < 65536
  value-small i p = le_trans (value-below i p) (pow_mono {i = m} {j = 16} (omega arith))

  -- ---- both values
  syndromes-block : (p : ℕ) → syndromes m p ≡ value_at m 3 p * 65536 + value_at m 1 p
  unfolding syndromes
  syndromes-block p = omega arith

  pub syndromes-sum : (a b : ℕ) → syndromes m (a ⊕ b) ≡ syndromes m a ⊕ syndromes m b
  unfolding ◌⊕◌
  syndromes-sum a b =
      syndromes-block (a ⊕ b) ∙ ap₂ (λ (x y : ℕ). x * 65536 + y) (value-sum m 3 a b) (value-sum m 1 a b)
      ∙ sym (xor_block 16 (value_at m 3 a) (value_at m 3 b) (value_at m 1 a) (value_at m 1 b) (value-small 1 a) (value-small 1 b))
      ∙ sym (ap₂ ◌⊕◌ (syndromes-block a) (syndromes-block b))

  pub syndromes-low : (p : ℕ) → syndromes m p % 65536 ≡ value_at m 1 p
  unfolding syndromes
  syndromes-low p = omega (arith, value-small 1 p)

  pub syndromes-high : (p : ℕ) → syndromes m p / 65536 ≡ value_at m 3 p
  unfolding syndromes
  syndromes-high p = omega (arith, value-small 1 p)

  syndromes-power : (k : ℕ) → syndromes m (2 ^ k) ≡ power_syndromes m k
  unfolding syndromes
  syndromes-power k = ap₂ (λ (a b : ℕ). a + 65536 * b) (value-power m 1 k ∙ ap (power m) (one-mul k)) (value-power m 3 k)

  pub syndromes-bits : (r x : ℕ) → x < 2 ^ r → syndromes m x ≡ xor_sum r (λ k. (x / 2 ^ k % 2) * power_syndromes m k)
  syndromes-bits r = linear_bits r (syndromes m) syndromes-sum (power_syndromes m) (λ k l. syndromes-power k)

-- ---- powers of x modulo the generator
module _ (m t : ℕ) (C : Code m t) where
  root : (i : ℕ) → i % 2 ≡ 1 → i < 2 * t → value_at m i (generator m t) ≡ 0
  root = generator_roots m t C.m-low C.m-high C.t-high C.fits

  pub first-value : (e : ℕ) → value_at m 1 (power_mod (generator m t) (m * t) e) ≡ power m e
  first-value e = value_root m 1 (generator m t) (m * t) (root 1 refl (omega (arith, C.t-low))) e ∙ ap (power m) (one-mul e)

  pub third-value : 2 ≤ t → (e : ℕ) → value_at m 3 (power_mod (generator m t) (m * t) e) ≡ power m (3 * e)
  third-value two = value_root m 3 (generator m t) (m * t) (root 3 refl (omega arith))

  pub fifth_value : 3 ≤ t → (e : ℕ) → value_at m 5 (power_mod (generator m t) (m * t) e) ≡ power m (5 * e)
  fifth_value three = value_root m 5 (generator m t) (m * t) (root 5 refl (omega arith))
