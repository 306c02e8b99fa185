-- The laws of the sum of polynomials: a commutative group in which each element is its own inverse.
--   bit_ind, mod2_bit, bit_below            a fact on 0 and 1 is a fact on every bit; a remainder by 2; a bit times a number
--   ⊕-comm, ⊕-assoc, ⊕-self, ⊕-equal ..    the group; `⊕·simp` normalises sums
--   ⊕_half, ⊕_odd, ⊕-step                  by the half and the last digit
--   ⊕-below, ⊕_shift, ⊕-mod                 bounds, and digits from k on and below k
--   ⊕_double, ⊕_scale, bit_scale_⊕          doubling, and a bit times a number, are linear
-- Assumes nothing.
use mathlib.Core.Path.{◌≡◌, refl, sym, ap, ap₂, ◌∙◌}
use Prim.Native.Nat.{ℕ, zero, suc, ◌+◌, ◌*◌, ◌/◌, ◌%◌, ◌^◌, ◌<◌}
use native.Mathlib.Nat.{mod-lt, zero-lt-suc, zero-mul, one-mul, mul-div_cancel, mul-mod_left, le_refl, add-zero}
use native.Mathlib.Omega.{arith}
use lib.Arith.{bin_ind, digits_mod}
use lib.Pow.{pow_pos}
use lib.Bits.{differ, xor_step, xor_comm, xor_self, xor_zero_r, xor_lt, xor_shr, xor_mod}
use Rattle.bch.specs.Polynomial.{◌⊕◌}

pub bit_ind : (P : ℕ → Type 0) → P 0 → P 1 → (x : ℕ) → x < 2 → P x
bit_ind P p0 p1 zero h = p0
bit_ind P p0 p1 (suc zero) h = p1
bit_ind P p0 p1 (suc (suc x)) h = absurd (omega arith)

pub mod2_bit : (n : ℕ) → n % 2 < 2
mod2_bit n = mod-lt n (zero-lt-suc 1)

pub bit_below : (k x v : ℕ) → x < 2 → v < 2 ^ k → x * v < 2 ^ k
bit_below k x v hx h = bit_ind (λ (x : ℕ). x * v < 2 ^ k) (rw zero-mul (pow_pos k)) (rw one-mul h) x hx

differ-lt : (x y : ℕ) → x < 2 → y < 2 → differ x y < 2
differ-lt x y hx hy =
    bit_ind (λ (x : ℕ). differ x y < 2) hy (bit_ind (λ (y : ℕ). differ 1 y < 2) (le_refl 2) (zero-lt-suc 1) y hy) x hx

differ_assoc : (x y z : ℕ) → x < 2 → y < 2 → z < 2 → differ (differ x y) z ≡ differ x (differ y z)
differ_assoc x y z hx hy hz =
    bit_ind (λ (x : ℕ). differ (differ x y) z ≡ differ x (differ y z)) refl
    (bit_ind (λ (y : ℕ). differ (differ 1 y) z ≡ differ 1 (differ y z)) refl
    (bit_ind (λ (z : ℕ). differ (differ 1 1) z ≡ differ 1 (differ 1 z)) refl refl z hz) y hy) x hx

pub ⊕-zero-left : (a : ℕ) → 0 ⊕ a ≡ a
unfolding ◌⊕◌
⊕-zero-left a = refl

pub ⊕-zero-right : (a : ℕ) → a ⊕ 0 ≡ a
unfolding ◌⊕◌
⊕-zero-right = xor_zero_r

pub ⊕_comm : (a b : ℕ) → a ⊕ b ≡ b ⊕ a
unfolding ◌⊕◌
⊕_comm = xor_comm

pub ⊕-self : (a : ℕ) → a ⊕ a ≡ 0
unfolding ◌⊕◌
⊕-self = xor_self

pub ⊕_half : (a b : ℕ) → (a ⊕ b) / 2 ≡ a / 2 ⊕ b / 2
unfolding ◌⊕◌
⊕_half a b = xor_shr a b 1

⊕-step : (a b : ℕ) → a ⊕ b ≡ (a / 2 ⊕ b / 2) * 2 + differ (a % 2) (b % 2)
unfolding ◌⊕◌
⊕-step = xor_step

⊕_odd : (a b : ℕ) → (a ⊕ b) % 2 ≡ differ (a % 2) (b % 2)
⊕_odd a b =
    ap (λ (n : ℕ). n % 2) (⊕-step a b) ∙ digits_mod (a / 2 ⊕ b / 2) (differ-lt (a % 2) (b % 2) (mod2_bit a) (mod2_bit b))

pub ⊕-below : (k a b : ℕ) → a < 2 ^ k → b < 2 ^ k → a ⊕ b < 2 ^ k
unfolding ◌⊕◌
⊕-below = xor_lt

pub ⊕_shift : (a b k : ℕ) → (a ⊕ b) / 2 ^ k ≡ a / 2 ^ k ⊕ b / 2 ^ k
unfolding ◌⊕◌
⊕_shift = xor_shr

pub ⊕-mod : (k a b : ℕ) → (a ⊕ b) % 2 ^ k ≡ a % 2 ^ k ⊕ b % 2 ^ k
unfolding ◌⊕◌
⊕-mod k a b = xor_mod a b k

pub ⊕_assoc : (a b c : ℕ) → a ⊕ b ⊕ c ≡ a ⊕ (b ⊕ c)
⊕_assoc =
    bin_ind (λ (a : ℕ). (b c : ℕ) → a ⊕ b ⊕ c ≡ a ⊕ (b ⊕ c)) (λ b c. ap (λ (x : ℕ). x ⊕ c) (⊕-zero-left b) ∙ sym (⊕-zero-left (b ⊕ c)))
    (λ a ih b c.
    ⊕-step (a ⊕ b) c
    ∙ ap₂ (λ (x y : ℕ). x * 2 + y)
    (ap (λ (x : ℕ). x ⊕ c / 2) (⊕_half a b) ∙ ih (b / 2) (c / 2) ∙ ap (λ (x : ℕ). a / 2 ⊕ x) (sym (⊕_half b c)))
    (ap (λ (x : ℕ). differ x (c % 2)) (⊕_odd a b) ∙ differ_assoc (a % 2) (b % 2) (c % 2) (mod2_bit a) (mod2_bit b) (mod2_bit c)
    ∙ ap (differ (a % 2)) (sym (⊕_odd b c)))
    ∙ sym (⊕-step a (b ⊕ c)))

pub ⊕-left_comm : (a b c : ℕ) → a ⊕ (b ⊕ c) ≡ b ⊕ (a ⊕ c)
⊕-left_comm a b c = sym (⊕_assoc a b c) ∙ ap (λ (x : ℕ). x ⊕ c) (⊕_comm a b) ∙ ⊕_assoc b a c

pub ⊕-self-left : (a b : ℕ) → a ⊕ (a ⊕ b) ≡ b
⊕-self-left a b = sym (⊕_assoc a a b) ∙ ap (λ (x : ℕ). x ⊕ b) (⊕-self a) ∙ ⊕-zero-left b

pub ruleset ⊕·simp = (⊕_assoc, ⊕_comm, ⊕-left_comm, ⊕-self, ⊕-self-left, ⊕-zero-left, ⊕-zero-right)

-- four terms by pairs
pub ⊕_swap : (a b c d : ℕ) → a ⊕ b ⊕ (c ⊕ d) ≡ a ⊕ c ⊕ (b ⊕ d)
⊕_swap a b c d = simp ⊕·simp

-- equal elements have the sum 0, and no others
pub ⊕_equal : {a b : ℕ} → a ⊕ b ≡ 0 → a ≡ b
⊕_equal {a} {b} h = sym (⊕-zero-right a) ∙ ap (λ (x : ℕ). a ⊕ x) (sym h) ∙ ⊕-self-left a b

-- doubling, and a bit times a number, are linear
pub ⊕_double : (a b : ℕ) → (a ⊕ b) * 2 ≡ a * 2 ⊕ b * 2
⊕_double a b =
    sym (⊕-step (a * 2) (b * 2)
    ∙ ap₂ (λ (x y : ℕ). x * 2 + y) (ap₂ ◌⊕◌ (mul-div_cancel a (zero-lt-suc 1)) (mul-div_cancel b (zero-lt-suc 1))) (ap₂ differ (mul-mod_left a 2) (mul-mod_left b 2))
    ∙ add-zero ((a ⊕ b) * 2))

differ_scale : (x y v : ℕ) → x < 2 → y < 2 → differ x y * v ≡ x * v ⊕ y * v
differ_scale x y v hx hy =
    bit_ind (λ (x : ℕ). differ x y * v ≡ x * v ⊕ y * v) (simp (zero-mul, ⊕·simp))
    (bit_ind (λ (y : ℕ). differ 1 y * v ≡ 1 * v ⊕ y * v) (simp (zero-mul, ⊕·simp)) (simp (zero-mul, ⊕·simp)) y hy) x hx

pub ⊕_scale : (a b v : ℕ) → ((a ⊕ b) % 2) * v ≡ (a % 2) * v ⊕ (b % 2) * v
⊕_scale a b v = ap (λ (x : ℕ). x * v) (⊕_odd a b) ∙ differ_scale (a % 2) (b % 2) v (mod2_bit a) (mod2_bit b)

pub bit_scale_⊕ : (x a b : ℕ) → x < 2 → x * (a ⊕ b) ≡ x * a ⊕ x * b
bit_scale_⊕ x a b h =
    bit_ind (λ (x : ℕ). x * (a ⊕ b) ≡ x * a ⊕ x * b) (simp (zero-mul, ⊕·simp)) (simp (one-mul)) x h
