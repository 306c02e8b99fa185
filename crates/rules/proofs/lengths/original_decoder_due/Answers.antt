-- The lengths are those of the rule, and fit.
use mathlib.Core.Path.{ap}
use Prim.Native.Nat.{ℕ, ◌*◌, ◌≤◌}
use native.Mathlib.Omega.{arith}
use Rattle.staircase.specs.Design.{most-blocks}
use Rattle.staircase.proofs.Bounds.{small_product}
use Rattle.original.specs.Rules.{original_work}
use Rattle.design.specs.Sizes.{params_of}
use Rattle.rules.specs.Lengths.{original_decoder_due}
use Rattle.rules.proofs.lengths.original_decoder_due.Goals as goal

few_bits : (few area : ℕ) → few ≤ most-blocks → area ≤ 4294967296 → few * area ≤ 17592186044416
few_bits few area h a = small_product few area most-blocks 4294967296 h a

pub overflow_mul-info : goal.overflow_mul-info
overflow_mul-info c = let few = c.blocks_allowed-few in omega (arith, few_bits few.result c.area.result few.ensures.0 (omega arith))

pub overflow_mul-work : goal.overflow_mul-work
overflow_mul-work c = let few = c.blocks_allowed-few in omega (arith, few_bits few.result c.size.result few.ensures.0 (omega arith))

pub overflow_mul-work-2 : goal.overflow_mul-work-2
overflow_mul-work-2 c = let few = c.blocks_allowed-few in omega (arith, few_bits few.result c.size.result few.ensures.0 (omega arith))

pub overflow_add-work : goal.overflow_add-work
overflow_add-work c = let few = c.blocks_allowed-few in omega (arith, few_bits few.result c.area.result few.ensures.0 (omega arith))

pub overflow_add-work-2 : goal.overflow_add-work-2
overflow_add-work-2 c =
    let few = c.blocks_allowed-few in
    omega (arith, few_bits few.result c.area.result few.ensures.0 (omega arith), few_bits few.result c.size.result few.ensures.0 (omega arith))

pub returns : goal.returns
unfolding original_decoder_due original_work
returns c = λ h. rw (c.area.ensures.0, c.size.ensures) (ap (original_decoder_due (params_of c.args.d)) (c.blocks_allowed-few.ensures.1 h))
