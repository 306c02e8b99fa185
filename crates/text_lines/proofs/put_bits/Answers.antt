use native.Mathlib.Omega.{arith}
use mathlib.Core.Path.{sym}
use Prim.Native.Nat.{◌<◌}
use lib.ListN.{length}
use Rattle.text_lines.proofs.Chars.{length-chars, chars-at}
use Rattle.text_lines.proofs.Storing.{copied_more, copied_all}
use Rattle.text_lines.proofs.put_bits.Goals as goal

pub loop-i-preserved : goal.loop-i-preserved
loop-i-preserved c =
    let bits = c.args.bits.now in
    let l = c.loop-i in
    let h : l.i < length bits = c.loop-i-test.true in
    copied_more _ _ _ _ _ l.invariant _ (omega (arith, length-chars bits)) (sym (chars-at bits l.i h))

pub returns-clause-out_after : goal.returns-clause-out_after
returns-clause-out_after c = copied_all _ _ _ _ _ c.loop-i.invariant (omega (arith, length-chars c.args.bits.now))
