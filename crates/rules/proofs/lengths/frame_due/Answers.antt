-- The lengths are those of the rule, and fit.
use mathlib.Core.Path.{ap}
use Prim.Native.Nat.{ℕ, ◌*◌}
use native.Mathlib.Omega.{arith}
use Rattle.staircase.specs.Design.{most-blocks}
use Rattle.staircase.proofs.Bounds.{small_product}
use Rattle.design.specs.Sizes.{params_of}
use Rattle.rules.specs.Lengths.{frame_due}
use Rattle.rules.proofs.lengths.frame_due.Goals as goal

pub overflow_mul-info : goal.overflow_mul-info
overflow_mul-info c =
    let few = c.blocks_allowed-few in
    omega (arith, small_product few.result c.area.result most-blocks 4294967296 few.ensures.0 (omega arith))

pub overflow_mul-red-2 : goal.overflow_mul-red-2
overflow_mul-red-2 c =
    let few = c.blocks_allowed-few.ensures.0 in
    omega (arith, small_product c.group_count.result (2 * c.order.result) most-blocks 8589934592 (omega (arith, few)) (omega arith))

pub returns : goal.returns
unfolding frame_due
returns c =
    λ h.
    let a = c.args in
    rw (c.area.ensures.0, c.group_count.ensures, c.order.ensures.0)
    (ap (λ (L : ℕ). frame_due (params_of a.d) L a.due) (c.blocks_allowed-few.ensures.1 h))
