use mathlib.Core.Path.{◌≡◌, subst}
use Prim.Native.Nat.{ℕ, ◌+◌, ◌-◌, ◌*◌}
use native.Mathlib.Omega.{arith}
use Rattle.original_encoder.specs.Written.{DigitsAt}
use Rattle.original_encoder.proofs.Digits.{rows_more}
use Rattle.original_encoder.proofs.clear_parity.Goals as goal

pub loop-i-preserved : goal.loop-i-preserved
loop-i-preserved c =
    let a = c.args in
    let l = c.loop-i in
    let put = c.put_digits in
    let e : l.i * a.size + (a.size - a.r) ≡ 0 + l.i * a.size + (a.size - a.r) = omega arith in
    rows_more a.size a.r 0 c.requires.1 (λ i. 0) a.buffer.now l.i l.buffer put.new.buffer l.invariant
    (subst (λ (f : ℕ). DigitsAt a.r a.r f 0 l.buffer put.new.buffer) e put.ensures)
