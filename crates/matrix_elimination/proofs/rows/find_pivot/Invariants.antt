-- The loop's invariant: the rows from lo + p to i are 0 in the columns lo to lo + p.
use Prim.Native.Nat.{◌+◌, ◌-◌, ◌≤◌}
use Rattle.matrix_elimination.specs.Steps.{left, RowSteps}
use Rattle.matrix_elimination.proofs.Pivoting.{Searched}
use Rattle.matrix_elimination.proofs.rows.find_pivot.Given as goal

abbrev pub invariant-loop-i : goal.invariant-loop-i
invariant-loop-i l = (l.lo + l.p ≤ l.i) × (l.i ≤ l.n) × RowSteps l.n l.initial.m l.m × Searched l.n l.lo l.p l.i (left l.n l.m)

abbrev pub decreases-loop-i : goal.decreases-loop-i
decreases-loop-i l = l.n - l.i
