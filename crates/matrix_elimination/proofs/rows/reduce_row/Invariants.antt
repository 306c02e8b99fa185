-- The loop's invariant: row i is 0 in the columns of the first q pivot rows, and the other rows are as they were.
use Prim.Native.Nat.{◌-◌, ◌≤◌}
use Rattle.matrix_elimination.specs.Steps.{left, RowSteps}
use Rattle.matrix_elimination.proofs.Pivoting.{Reducing}
use Rattle.matrix_elimination.proofs.rows.reduce_row.Given as goal

abbrev pub invariant-loop-q : goal.invariant-loop-q
invariant-loop-q l = (l.q ≤ l.p) × RowSteps l.n l.initial.m l.m × Reducing l.n l.lo l.p l.i (left l.n l.initial.m) l.q (left l.n l.m)

abbrev pub decreases-loop-q : goal.decreases-loop-q
decreases-loop-q l = l.p - l.q
