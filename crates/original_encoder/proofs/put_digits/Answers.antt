use mathlib.Core.Path.{◌≡◌, subst}
use Prim.Native.Nat.{ℕ, suc, ◌-◌}
use native.Mathlib.Omega.{arith}
use Rattle.original_encoder.proofs.Digits.{Last, last_more}
use Rattle.original_encoder.proofs.put_digits.Goals as goal

pub loop-j-preserved : goal.loop-j-preserved
loop-j-preserved c =
    let a = c.args in
    let l = c.loop-j in
    let e : l.j ≡ suc (l.j - 1) = omega arith in
    let D = subst (λ (n : ℕ). Last n a.r a.from a.x l.rest a.buffer.now l.buffer) e l.invariant in
    last_more (l.j - 1) a.r a.from a.x l.rest a.buffer.now l.buffer D (omega arith) (omega (arith, l.invariant.long))
