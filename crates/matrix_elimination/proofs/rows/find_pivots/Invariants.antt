-- The loop's invariant: there are p pivots.
use Prim.Native.Nat.{◌-◌, ◌≤◌}
use Rattle.staircase.specs.Square.{Pivots}
use Rattle.matrix_elimination.specs.Steps.{left, RowSteps}
use Rattle.matrix_elimination.proofs.rows.find_pivots.Given as goal

abbrev pub invariant-loop-p : goal.invariant-loop-p
invariant-loop-p l = (l.p ≤ l.most) × RowSteps l.n l.initial.m l.m × Pivots l.n l.lo l.p (left l.n l.m)

abbrev pub decreases-loop-p : goal.decreases-loop-p
decreases-loop-p l = l.most - l.p
