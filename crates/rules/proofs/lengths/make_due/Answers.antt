-- The sizes are those of the design.
use Prim.Native.Nat.{◌+◌, ◌*◌}
use native.Mathlib.Omega.{arith}
use Rattle.staircase.specs.Maker.{make_work}
use Rattle.staircase.proofs.Bounds.{small_product}
use Rattle.rules.specs.Lengths.{make_due}
use Rattle.rules.proofs.lengths.make_due.Goals as goal

pub overflow_mul-packed : goal.overflow_mul-packed
overflow_mul-packed c = omega (arith, small_product c.order-n.result c.row_bytes-width.result 4294967295 536870912 (omega arith) (omega arith))

pub overflow_mul-work-2 : goal.overflow_mul-work-2
overflow_mul-work-2 c =
    let n = c.order-n.result in
    omega (arith, small_product (2 * n + 512) c.row_bytes-width.result 8589935102 536870912 (omega arith) (omega arith))

pub returns : goal.returns
unfolding make_due make_work
returns c = rw (c.order-n.ensures.0, c.row_bytes-width.ensures.0)
