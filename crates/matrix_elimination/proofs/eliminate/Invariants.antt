-- The loop's invariant: the columns of the first b bytes of the rows are the identity's.
use Prim.Native.Nat.{◌*◌, ◌≤◌}
use Rattle.staircase.specs.Square.{Units}
use Rattle.matrix_elimination.specs.Steps.{left, RowSteps}
use Rattle.matrix_elimination.proofs.eliminate.Given as goal

abbrev pub invariant-loop-b : goal.invariant-loop-b
invariant-loop-b l = (8 * l.b ≤ l.n) × Units l.n (8 * l.b) (left l.n l.m) × RowSteps l.n l.initial.m l.m
