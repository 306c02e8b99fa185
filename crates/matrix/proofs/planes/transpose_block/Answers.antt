-- The three exchanges are `transposed` of proofs/Block.antt.
use mathlib.Core.Path.{◌≡◌, ◌∙◌}
use Prim.Native.Nat.{◌+◌, ◌*◌, ◌/◌, ◌%◌}
use native.Mathlib.Omega.{arith}
use Rattle.matrix.proofs.Block.{exchange, transposed, transposed_bit}
use Rattle.matrix.proofs.planes.transpose_block.Goals as goal

pub returns : goal.returns
unfolding exchange transposed
returns c r s h l =
    let e : 8 * ((8 * s + r) % 8) + (8 * s + r) / 8 ≡ 8 * r + s = omega arith in
    transposed_bit c.args.x (8 * s + r) (omega arith) ∙ rw e
