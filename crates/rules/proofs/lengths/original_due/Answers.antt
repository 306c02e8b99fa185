-- The length is that of the rule, and fits.
use mathlib.Core.Path.{ap}
use native.Mathlib.Omega.{arith}
use Rattle.staircase.specs.Design.{most-blocks}
use Rattle.staircase.proofs.Bounds.{small_product}
use Rattle.design.specs.Sizes.{params_of}
use Rattle.rules.specs.Lengths.{original_due}
use Rattle.rules.proofs.lengths.original_due.Goals as goal

pub overflow_mul-info : goal.overflow_mul-info
overflow_mul-info c =
    let few = c.blocks_allowed in
    omega (arith, small_product few.result c.area.result most-blocks 4294967296 few.ensures.0 (omega arith))

pub returns : goal.returns
unfolding original_due
returns c = λ h. rw c.area.ensures.0 (ap (original_due (params_of c.args.d)) (c.blocks_allowed.ensures.1 h))
