-- The loop's invariant: the rows before i are cleared, and the others as they were. The measure is the number of rows left.
use mathlib.Core.Path.{◌≡◌}
use Prim.Native.Nat.{◌-◌, ◌≤◌}
use lib.ListN.{length}
use Rattle.matrix_elimination.specs.Cleared.{RowsCleared}
use Rattle.matrix_elimination.proofs.tables.clear_part.Given as goal

abbrev pub invariant-loop-i : goal.invariant-loop-i
invariant-loop-i l = (l.from ≤ l.i) × (l.i ≤ l.to) × (length l.m ≡ length l.initial.m) × RowsCleared l.n l.w l.b l.h l.from l.i l.initial.m l.m

abbrev pub decreases-loop-i : goal.decreases-loop-i
decreases-loop-i l = l.to - l.i
