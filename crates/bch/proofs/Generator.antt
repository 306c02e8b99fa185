-- The generators, for all m and t of a design.
--   generator_degree   the degree is m t
--   generator_roots    the odd powers 1, 3, .., 2t - 1 of the root are roots
-- Assumes nothing.
use mathlib.Core.Path.{◌≡◌, sym, ap, ap₂, ◌∙◌}
use mathlib.Core.Logic.{⊎_elim}
use Prim.Native.Nat.{ℕ, zero, suc, ◌+◌, ◌*◌, ◌/◌, ◌%◌, ◌^◌, ◌≤◌, ◌<◌}
use native.Mathlib.Nat.{zero-lt-suc, div-eq_of_lt, one-mul, le_refl, pow-suc, suc-add, mul-suc, mul-zero, lt_of_lt_of_le, div-div-eq-div-mul, mul-div-mul_right, zero-add, div-one, eq-or-lt_of_le, pow-succ'}
use native.Mathlib.Omega.{arith}
use lib.Pow.{pow_mono}
use Rattle.bch.specs.Polynomial.{◌⊕◌, ◌⊗◌, times_x, iterate, poly_at}
use Rattle.bch.specs.Field.{field_poly, value_at}
use Rattle.bch.specs.Code.{minimal_poly, generator}
use Rattle.bch.proofs.Sum.{mod2_bit, bit_below, ⊕-zero-right, ⊕_shift}
use Rattle.bch.proofs.Polynomial.{linear_zero, poly_at_linear, poly_at_comm, poly_at-product, product-bit, product-horner}
use Rattle.bch.proofs.Modulus.{iterate-times_x_linear, degree_high}
use Rattle.bch.proofs.Minimal.{Fits, minimal}

-- the degree of a product is the sum of the degrees
pub product_degree : (a b p q : ℕ) → p / 2 ^ a ≡ 1 → q / 2 ^ b ≡ 1 → (p ⊗ q) / 2 ^ (a + b) ≡ 1
product_degree zero b p q hp hq =
    ap (λ n. n ⊗ q / 2 ^ (0 + b)) (sym (div-one p) ∙ hp) ∙ ap (λ n. n / 2 ^ (0 + b)) (product-bit 1 q (le_refl 2) ∙ one-mul q)
    ∙ ap (λ n. q / 2 ^ n) (zero-add b) ∙ hq
product_degree (suc a) b p q hp hq =
    ap (λ n. n / 2 ^ (suc a + b)) (product-horner p q) ∙ ⊕_shift ((p / 2 ⊗ q) * 2) ((p % 2) * q) (suc a + b)
    ∙ ap₂ ◌⊕◌
    (ap (λ n. (p / 2 ⊗ q) * 2 / n) (ap (λ n. 2 ^ n) (suc-add a b) ∙ pow-suc 2 (a + b)) ∙ mul-div-mul_right (p / 2 ⊗ q) (2 ^ (a + b)) (zero-lt-suc 1)
    ∙ product_degree a b (p / 2) q (div-div-eq-div-mul p 2 (2 ^ a) ∙ ap (λ n. p / n) (sym (pow-succ' 2 a)) ∙ hp) hq)
    (div-eq_of_lt (lt_of_lt_of_le (bit_below (suc b) (p % 2) q (mod2_bit p) (rw pow-succ' (degree_high q b hq))) (pow_mono {i = suc b} (omega arith))))
    ∙ ⊕-zero-right 1

pub generator_degree : (m t : ℕ) → 4 ≤ m → m ≤ 10 → t ≤ 3 → Fits m t → generator m t / 2 ^ (m * t) ≡ 1
unfolding generator
generator_degree m zero lo hi ht fits = ap (λ n. 1 / 2 ^ n) (mul-zero m)
generator_degree m (suc t) lo hi ht fits =
    ap (λ n. (generator m t ⊗ minimal_poly m (2 * t + 1)) / 2 ^ n) (mul-suc m t)
    ∙ product_degree (m * t) m (generator m t) (minimal_poly m (2 * t + 1)) (generator_degree m t lo hi (omega arith) (omega arith)) (minimal m t lo hi ht fits).degree

pub generator_roots : (m t : ℕ) → 4 ≤ m → m ≤ 10 → t ≤ 3 → Fits m t → (i : ℕ) → i % 2 ≡ 1 → i < 2 * t → value_at m i (generator m t) ≡ 0
unfolding generator value_at
generator_roots m zero lo hi ht fits i o l = absurd (omega arith)
generator_roots m (suc t) lo hi ht fits i o l =
    poly_at-product X lin G M 1
    ∙ ⊎_elim
    (λ (e : i ≡ 2 * t + 1). ap (poly_at X G) (ap (λ n. poly_at (iterate (times_x (field_poly m) m) n) M 1) e ∙ last) ∙ linear_zero (poly_at X G) (poly_at_linear X lin G))
    (λ (k : i < 2 * t + 1).
    poly_at_comm X lin G M 1 ∙ ap (poly_at X M) (generator_roots m t lo hi (omega arith) (omega arith) i o (omega arith)) ∙ linear_zero (poly_at X M) (poly_at_linear X lin M))
    (eq-or-lt_of_le {n = i} {m = 2 * t + 1} (omega arith))
  where
    X : ℕ → ℕ
    X = iterate (times_x (field_poly m) m) i

    lin : (a b : ℕ) → X (a ⊕ b) ≡ X a ⊕ X b
    lin = iterate-times_x_linear (field_poly m) m i

    G : ℕ
    G = generator m t

    M : ℕ
    M = minimal_poly m (2 * t + 1)

    last : poly_at (iterate (times_x (field_poly m) m) (2 * t + 1)) M 1 ≡ 0
    last = (minimal m t lo hi ht fits).vanishes
