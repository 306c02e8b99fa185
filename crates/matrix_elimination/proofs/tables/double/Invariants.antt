-- The loop's invariant: x of the rows after the first 2^p are made. The measure is the number of rows left.
use mathlib.Core.Path.{◌≡◌}
use Prim.Native.Nat.{◌-◌, ◌≤◌}
use lib.ListN.{length}
use Rattle.matrix_elimination.proofs.Doubling.{Doubled}
use Rattle.matrix_elimination.proofs.tables.double.Given as goal

abbrev pub invariant-loop-x : goal.invariant-loop-x
invariant-loop-x l = (l.x ≤ l.s) × (length l.m ≡ length l.initial.m) × Doubled l.initial.m l.n l.w l.lo l.p l.m l.x

abbrev pub decreases-loop-x : goal.decreases-loop-x
decreases-loop-x l = l.s - l.x
