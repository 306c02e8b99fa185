-- The stretch ends at number × n, which is within the bytes.
use Prim.Native.Nat.{◌-◌}
use native.Mathlib.Nat.{add-sub_cancel_left}
use native.Mathlib.Omega.{arith}
use Rattle.staircase.proofs.Bounds.{stretch-end}
use Rattle.show.proofs.stretch_of.Goals as goal

pub overflow_mul-at : goal.overflow_mul-at
overflow_mul-at c = omega (arith, stretch-end (c.args.number - 1) c.args.number c.args.n (omega arith))

pub overflow_add-result : goal.overflow_add-result
overflow_add-result c = omega (arith, stretch-end (c.args.number - 1) c.args.number c.args.n (omega arith))

pub slice_bounds-result-end : goal.slice_bounds-result-end
slice_bounds-result-end c = omega (arith, stretch-end (c.args.number - 1) c.args.number c.args.n (omega arith))

pub returns : goal.returns
returns c = simp add-sub_cancel_left
