-- The lengths are those of the rule, and fit.
use mathlib.Core.Path.{ap₂}
use Prim.Native.Nat.{ℕ, ◌*◌}
use native.Mathlib.Omega.{arith}
use Rattle.staircase.specs.Design.{most-blocks}
use Rattle.staircase.specs.Batch.{most-frames}
use Rattle.staircase.proofs.Bounds.{small_product}
use Rattle.design.specs.Sizes.{params_of}
use Rattle.rules.specs.Lengths.{batch_due}
use Rattle.rules.proofs.lengths.batch_due.Goals as goal

pub overflow_mul-info : goal.overflow_mul-info
overflow_mul-info c =
    let few = c.blocks_allowed-few in
    omega (arith, small_product few.result c.area.result most-blocks 4294967296 few.ensures.0 (omega arith))

pub overflow_mul-info-2 : goal.overflow_mul-info-2
overflow_mul-info-2 c =
    let few = c.blocks_allowed-few in
    let some = c.frames_allowed-some in
    let one = small_product few.result c.area.result most-blocks 4294967296 few.ensures.0 (omega arith) in
    omega (arith, small_product some.result (few.result * c.area.result) most-frames 17592186044416 some.ensures.0 (omega (arith, one)))

pub overflow_mul-red-2 : goal.overflow_mul-red-2
overflow_mul-red-2 c =
    let few = c.blocks_allowed-few.ensures.0 in
    omega (arith, small_product c.group_count.result (2 * c.order.result) most-blocks 8589934592 (omega (arith, few)) (omega arith))

pub overflow_mul-red-3 : goal.overflow_mul-red-3
overflow_mul-red-3 c =
    let few = c.blocks_allowed-few.ensures.0 in
    let some = c.frames_allowed-some in
    let g = c.group_count.result in
    let one = small_product g (2 * c.order.result) most-blocks 8589934592 (omega (arith, few)) (omega arith) in
    omega (arith, small_product some.result (g * (2 * c.order.result)) most-frames 35184372088832 some.ensures.0 (omega (arith, one)))

pub returns : goal.returns
unfolding batch_due
returns c =
    λ h k.
    let a = c.args in
    rw (c.area.ensures.0, c.group_count.ensures, c.order.ensures.0)
    (ap₂ (λ (L n : ℕ). batch_due (params_of a.d) L n a.due) (c.blocks_allowed-few.ensures.1 h) (c.frames_allowed-some.ensures.1 k))
