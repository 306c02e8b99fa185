-- The loop's invariant: row lo + p has its pivot, and the first q pivot rows are 0 in its column.
use Prim.Native.Nat.{◌-◌, ◌≤◌}
use Rattle.matrix_elimination.specs.Steps.{left, RowSteps}
use Rattle.matrix_elimination.proofs.Pivoting.{Placing}
use Rattle.matrix_elimination.proofs.rows.place_pivot.Given as goal

abbrev pub invariant-loop-q : goal.invariant-loop-q
invariant-loop-q l = (l.q ≤ l.p) × RowSteps l.n l.initial.m l.m × Placing l.n l.lo l.p l.q (left l.n l.m)

abbrev pub decreases-loop-q : goal.decreases-loop-q
decreases-loop-q l = l.p - l.q
