-- The bits of a number, and the parity of its ones.
--   bit x r       bit r of x, the lowest first
--   bit-lt, bit-zero, bit_above   a bit is 0 or 1; the bits of 0; the bits past a number's end
--   bit-xor, bit_mask, bit_shr, bit_shl, bit-low   the bits of an exclusive or, of a mask, of a number moved down or up, of the low bits alone
--   bit_added     the bits of a number of w bits to which a bit is added at a place
--   odd_xor       an exclusive or has an odd number of ones where just one of the two has
--   odd_and       the ones of a mask, counted modulo 2 bit by bit
-- Assumes nothing.
use mathlib.Core.Path.{◌≡◌, refl, sym, ap, ap₂, ◌∙◌}
use mathlib.Core.Bool.{Bool, true, false, cond}
use Prim.Native.Nat.{ℕ, zero, suc, ◌+◌, ◌-◌, ◌*◌, ◌/◌, ◌%◌, ◌^◌, ◌≤◌, ◌<◌}
use native.Mathlib.Nat.{div-one, div-div-eq-div-mul, pow-suc, pow-succ', zero-add, add-mod, add-mod-mod, zero-mul, mul-one, mod-eq_of_lt, div-eq_of_lt, zero-div, mod-lt, zero-lt-suc, lt_of_lt_of_le, sub-zero, suc-sub-suc}
use native.Mathlib.Decide.{ℕ_discrete}
use native.Mathlib.Omega.{arith}
use lib.Arith.{bin_ind, lt-one}
use lib.Bits.{bit_and, bit_xor, xor_add_and, xor_shr, xor_mod, and_shr, and_mod, shifted_half, shifted_even}
use lib.Count.{ones_in, ones, ones_step}
use lib.Dec.{eqb, ltb, leb-suc-suc}
use lib.Pow.{pow_mono, shl_exact, shr-shr, field, mod-mod-pow}
use borrow.Author.Tests.{eq-eqb, ne_eqb, lt-ltb, le-ltb, ltb-false}
use Rattle.bch.specs.Polynomial.{◌⊕◌}
use Rattle.bch.proofs.Sum.{bit_ind}
use Rattle.staircase.specs.Lists.{bit_sum, sum_bits}
use Rattle.staircase.proofs.Matrix.{sum_bits-same}
use Rattle.staircase.proofs.Parity.{bit-⊕}

abbrev pub bit : ℕ → ℕ → ℕ
bit x r = x / 2 ^ r % 2

pub bit-lt : (x r : ℕ) → bit x r < 2
bit-lt x r = mod-lt (x / 2 ^ r) (zero-lt-suc 1)

pub bit-zero : (r : ℕ) → bit 0 r ≡ 0
bit-zero r = ap (λ (z : ℕ). z % 2) (zero-div (2 ^ r))

pub bit_above : (x j k : ℕ) → x < 2 ^ j → j ≤ k → bit x k ≡ 0
bit_above x j k h l = ap (λ (z : ℕ). z % 2) (div-eq_of_lt (lt_of_lt_of_le h (pow_mono l)))

low_bit : (x : ℕ) → bit x 0 ≡ x % 2
low_bit x = rw (div-one x)

half_bit : (x r : ℕ) → bit (x / 2) r ≡ bit x (suc r)
half_bit x r = rw (div-div-eq-div-mul x 2 (2 ^ r), pow-succ' 2 r)

-- ---- the bits of what code makes of numbers

pub bit-xor : (x y r : ℕ) → bit (bit_xor x y) r ≡ bit_sum (bit x r) (bit y r)
unfolding ◌⊕◌
bit-xor x y r =
    ap (λ (z : ℕ). z % 2) (xor_shr x y r) ∙ xor_mod (x / 2 ^ r) (y / 2 ^ r) 1 ∙ bit-⊕ (bit x r) (bit y r) (bit-lt x r) (bit-lt y r)

bit-and : (u v : ℕ) → u < 2 → v < 2 → bit_and u v ≡ u * v
bit-and u v hu hv =
    bit_ind (λ (u : ℕ). bit_and u v ≡ u * v) (sym (zero-mul v))
    (bit_ind (λ (v : ℕ). bit_and 1 v ≡ 1 * v) refl refl v hv) u hu

pub bit_mask : (x y r : ℕ) → bit (bit_and x y) r ≡ bit x r * bit y r
bit_mask x y r =
    ap (λ (z : ℕ). z % 2) (and_shr x y r) ∙ and_mod (x / 2 ^ r) (y / 2 ^ r) 1 ∙ bit-and (bit x r) (bit y r) (bit-lt x r) (bit-lt y r)

pub bit_shr : (x d r : ℕ) → bit (x / 2 ^ d) r ≡ bit x (d + r)
bit_shr x d r = ap (λ (z : ℕ). z % 2) (shr-shr x d r)

shl_all : (v s r : ℕ) → bit (v * 2 ^ s) r ≡ cond (ltb r s) 0 (bit v (r - s))
shl_all v zero r =
    ap (λ (z : ℕ). bit z r) (mul-one v)
    ∙ ap₂ (λ (z : Bool) (k : ℕ). cond z 0 (bit v k)) (sym (le-ltb r 0 (omega arith))) (sym (sub-zero r))
shl_all v (suc s) zero =
    low_bit (v * 2 ^ suc s) ∙ shifted_even v s ∙ ap (λ (z : Bool). cond z 0 (bit v (zero - suc s))) (sym (lt-ltb zero (suc s) (omega arith)))
shl_all v (suc s) (suc r) =
    sym (half_bit (v * 2 ^ suc s) r) ∙ ap (λ (z : ℕ). bit z r) (shifted_half v s) ∙ shl_all v s r
    ∙ ap₂ (λ (z : Bool) (k : ℕ). cond z 0 (bit v k)) (sym (leb-suc-suc (suc r) s)) (sym (suc-sub-suc r s))

-- the j low bits
pub bit-low : (x j r : ℕ) → r < j → bit (x % 2 ^ j) r ≡ bit x r
bit-low x j r h =
    let m : ℕ = j - (r + 1) in
    let e : j ≡ m + 1 + r = omega arith in
    ap (λ (z : ℕ). bit (x % 2 ^ z) r) e ∙ ap (λ (z : ℕ). z % 2) (field x (m + 1) r) ∙ mod-mod-pow (x / 2 ^ r) m 1

-- moved up within j bits
pub bit_shl : (v s j r : ℕ) → r < j → bit (v * 2 ^ s % 2 ^ j) r ≡ cond (ltb r s) 0 (bit v (r - s))
bit_shl v s j r h = bit-low (v * 2 ^ s) j r h ∙ shl_all v s r

-- a bit alone moved up
one_shl : (v s r : ℕ) → v < 2 → bit (v * 2 ^ s) r ≡ cond (eqb s r) v 0
one_shl v s r h = shl_all v s r ∙ go (ℕ_discrete s r)
  where
    past : (s ≡ r → ⊥) → (z : Bool) → ltb r s ≡ z → cond z 0 (bit v (r - s)) ≡ 0
    past d true e = refl
    past d false e = bit_above v 1 (r - s) h (omega (arith, ltb-false r s e))

    go : Dec (s ≡ r) → cond (ltb r s) 0 (bit v (r - s)) ≡ cond (eqb s r) v 0
    go (yes i) =
        let z : r - s ≡ 0 = omega arith in
        rw (eq-eqb s r i, le-ltb r s (omega arith), z) (low_bit v ∙ mod-eq_of_lt h)
    go (no d) = past d (ltb r s) refl ∙ ap (λ (z : Bool). cond z v 0) (sym (ne_eqb s r d))

pub bit_added : (w x v s r : ℕ) → v < 2 → s < w → bit (bit_xor x (v * 2 ^ s % 2 ^ w)) r ≡ bit_sum (bit x r) (cond (eqb s r) v 0)
bit_added w x v s r h l =
    bit-xor x (v * 2 ^ s % 2 ^ w) r
    ∙ ap (bit_sum (bit x r)) (ap (λ (z : ℕ). bit z r) (shl_exact 1 s w h (omega arith)) ∙ one_shl v s r h)

-- ---- the parity of the ones

odd_sum : (x m n b : ℕ) → x + m * 2 ≡ n + b → x % 2 ≡ (n % 2 + b % 2) % 2
odd_sum x m n b e = omega arith

odd_step : (d r u v p q : ℕ) → d ≡ (u + v) % 2 → r % 2 ≡ (p + q) % 2 → (d + r) % 2 ≡ ((u + p) + (v + q)) % 2
odd_step d r u v p q e f = omega arith

ones-xor : (x y : ℕ) → ones (bit_xor x y) % 2 ≡ (ones x + ones y) % 2
unfolding ones ones_in
ones-xor =
    bin_ind (λ (n : ℕ). (b : ℕ) → ones (bit_xor n b) % 2 ≡ (ones n + ones b) % 2) (λ b. rw (zero-add (ones b)))
    (λ n ih b.
    rw (ones_step (bit_xor n b), xor_shr n b 1, ones_step n, ones_step b)
    (odd_step _ _ _ _ _ _ (odd_sum _ _ _ _ (xor_add_and n b)) (ih (b / 2))))

pub odd_xor : (x y : ℕ) → ones (bit_xor x y) % 2 ≡ bit_sum (ones x % 2) (ones y % 2)
odd_xor x y = ones-xor x y ∙ add-mod (ones x) (ones y) 2

-- the ones of a mask of k bits, one bit after the other
pub odd_and : (k x y : ℕ) → x < 2 ^ k → ones (bit_and x y) % 2 ≡ sum_bits k (λ r. bit x r * bit y r)
unfolding sum_bits ones ones_in
odd_and zero x y h = rw (lt-one h)
odd_and (suc k) x y h =
    let p : x < 2 ^ k * 2 = rw pow-suc at h in
    let q : x / 2 < 2 ^ k = omega arith in
    ap (λ (z : ℕ). z % 2) (ones_step (bit_and x y))
    ∙ sym (add-mod-mod (bit_and x y % 2) (ones (bit_and x y / 2)) 2)
    ∙ ap₂ bit_sum
    (and_mod x y 1 ∙ bit-and (x % 2) (y % 2) (omega arith) (omega arith) ∙ ap₂ (λ (s t : ℕ). s * t) (sym (low_bit x)) (sym (low_bit y)))
    (ap (λ (z : ℕ). ones z % 2) (and_shr x y 1) ∙ odd_and k (x / 2) (y / 2) q
    ∙ sum_bits-same k (λ r. bit (x / 2) r * bit (y / 2) r) (λ r. bit x (suc r) * bit y (suc r)) (λ r l. ap₂ (λ (s t : ℕ). s * t) (half_bit x r) (half_bit y r)))
