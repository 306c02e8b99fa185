use mathlib.Core.Path.{◌≡◌, sym, ap, ◌∙◌}
use Prim.Native.Nat.{ℕ, suc, ◌+◌, ◌-◌, ◌*◌, ◌/◌, ◌%◌, ◌^◌, ◌≤◌, ◌<◌}
use native.Mathlib.Nat.{zero-add, zero-mul, mul_assoc, add-mul, pow-suc, pow-succ'}
use native.Mathlib.Numerals.{add-one}
use native.Mathlib.Omega.{arith}
use lib.Pow.{pow_mono}
use Rattle.bch.specs.Mirror.{reversed, mirror}
use Rattle.bch_remainders.proofs.mirror_of.Goals as goal

-- one bit more
next_bit : (a p k n : ℕ) → n ≡ suc k → (a * 2 + p % 2) * 2 ^ k + reversed k (p / 2) ≡ a * 2 ^ n + reversed n p
unfolding reversed
next_bit a p k n e =
    let d : a * 2 * 2 ^ k ≡ a * 2 ^ suc k = mul_assoc a 2 (2 ^ k) ∙ ap (λ (z : ℕ). a * z) (sym (pow-succ' 2 k)) in
    let f : (a * 2 + p % 2) * 2 ^ k ≡ a * 2 * 2 ^ k + p % 2 * 2 ^ k = add-mul (a * 2) (p % 2) (2 ^ k) in
    omega (arith, d, f)
    ∙ ap (λ (z : ℕ). a * 2 ^ z + reversed z p) (sym e)

next_small : (a p i : ℕ) → a < 2 ^ i → a * 2 + p % 2 < 2 ^ (i + 1)
next_small a p i h = let e : 2 ^ (i + 1) ≡ 2 ^ i * 2 = ap (λ (z : ℕ). 2 ^ z) (add-one i) ∙ pow-suc 2 i in omega (arith, e, h)

-- none done
no_bits : (g n : ℕ) → 0 * 2 ^ (n - 0) + reversed (n - 0) g ≡ reversed n g
no_bits g n =
    let z : 0 * 2 ^ (n - 0) ≡ 0 = zero-mul (2 ^ (n - 0)) in
    let d : n - 0 ≡ n = omega arith in
    ap (λ (x : ℕ). x + reversed (n - 0) g) z ∙ zero-add (reversed (n - 0) g) ∙ ap (λ (k : ℕ). reversed k g) d

-- no bit left
all-bits : (a p r g k : ℕ) → k ≡ 0 → a * 2 ^ k + reversed k p ≡ reversed (r + 1) g → a ≡ mirror r g
unfolding mirror reversed
all-bits a p r g k z e =
    let one : a * 2 ^ 0 + 0 ≡ a = omega arith in
    sym (ap (λ (n : ℕ). a * 2 ^ n + reversed n p) z ∙ one) ∙ e ∙ ap (λ (n : ℕ). reversed n g) (add-one r)

small : (a i : ℕ) → a < 2 ^ i → i ≤ 30 → a < 1073741824
small a i h l = let p : 2 ^ i ≤ 2 ^ 30 = pow_mono l in omega (arith, h, p)

-- src/lib.rt:74:5
pub loop-i-preserved : goal.loop-i-preserved
loop-i-preserved c =
    let l = c.loop-i in
    let e : (c.args.r + 1) - l.i ≡ suc ((c.args.r + 1) - (l.i + 1)) = omega arith in
    (omega arith, omega arith, next_small l.a l.p l.i l.invariant.2, next_bit l.a l.p _ _ e ∙ l.invariant.3)

-- src/lib.rt:67:1
pub returns : goal.returns
returns c =
    let l = c.loop-i in
    let a = c.args in
    all-bits l.a l.p a.r a.g ((a.r + 1) - l.i) (omega arith) l.invariant.3
