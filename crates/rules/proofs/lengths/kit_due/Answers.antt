-- The sizes are those of the design.
use native.Mathlib.Omega.{arith}
use Rattle.staircase.specs.Rules.{kit_work}
use Rattle.staircase.proofs.Bounds.{small_product}
use Rattle.rules.specs.Lengths.{kit_due}
use Rattle.rules.proofs.lengths.kit_due.Goals as goal

pub overflow_mul-packed : goal.overflow_mul-packed
overflow_mul-packed c = omega (arith, small_product c.order-n.result c.row_bytes.result 4294967295 536870912 (omega arith) (omega arith))

pub returns : goal.returns
unfolding kit_due kit_work
returns c = rw (c.order-n.ensures.0, c.row_bytes.ensures.0)
