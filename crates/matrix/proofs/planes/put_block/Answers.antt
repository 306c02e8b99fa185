use mathlib.Core.Path.{◌∙◌}
use Prim.Native.Nat.{◌*◌, ◌/◌, ◌^◌}
use native.Mathlib.Omega.{arith}
use Rattle.staircase.proofs.Fill.{each_more}
use Rattle.matrix.proofs.Bits.{bit-low, bit_shr}
use Rattle.matrix.proofs.planes.put_block.Invariants.{ByteOf}
use Rattle.matrix.proofs.planes.put_block.Goals as goal

pub loop-s-preserved : goal.loop-s-preserved
loop-s-preserved c =
    let q = c.args.q in
    let l = c.loop-s in
    each_more (ByteOf q) l.part l.s _ (omega arith) l.invariant (λ r h. bit-low (q / 2 ^ (8 * l.s)) 8 r h ∙ bit_shr q (8 * l.s) r)
