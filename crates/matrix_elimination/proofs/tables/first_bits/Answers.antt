-- The mask has ones in the first h bits.
use mathlib.Core.Path.{◌≡◌, ap, ◌∙◌}
use Prim.Native.Nat.{ℕ, ◌-◌, ◌*◌, ◌%◌, ◌^◌, ◌≤◌, ◌<◌}
use native.Mathlib.Nat.{one-mul, mod-lt}
use native.Mathlib.Omega.{arith}
use lib.Bits.{bit_and, and_mask}
use lib.Pow.{pow_pos, pow_mono, shl_exact}
use Rattle.matrix_elimination.proofs.tables.first_bits.Goals as goal

-- 1 << h
shifted : (h : ℕ) → h ≤ 8 → 1 * 2 ^ h % 2 ^ 64 ≡ 2 ^ h
shifted h l = shl_exact 1 h 64 (omega arith) (omega arith) ∙ one-mul (2 ^ h)

pub returns : goal.returns
returns c =
    let h = c.args.h in
    let x = c.args.x in
    let few : 2 ^ h ≤ 2 ^ 8 = pow_mono {j = 8} (omega arith) in
    let low : x % 2 ^ h < 2 ^ h = mod-lt x (pow_pos h) in
    let e =
    ap (λ (z : ℕ). bit_and z (1 * 2 ^ h % 2 ^ 64 - 1)) c.from.ensures
    ∙ ap (λ (z : ℕ). bit_and x (z - 1)) (shifted h (omega arith)) ∙ and_mask x h in
    (e, omega (arith, e, few, low))
