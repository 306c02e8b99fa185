-- The loop's invariant: the right halves of the first i rows are the identity's, and the left halves as they were. The measure is the number of rows
-- left.
use mathlib.Core.Path.{◌≡◌}
use Prim.Native.Nat.{ℕ, ◌-◌, ◌*◌, ◌≤◌, ◌<◌}
use lib.ListN.{length}
use Rattle.staircase.specs.System.{identity, row_bytes}
use Rattle.matrix_elimination.specs.Steps.{left, right}
use Rattle.matrix_elimination.proofs.fill_identity.Given as goal

abbrev pub invariant-loop-i : goal.invariant-loop-i
invariant-loop-i l =
    (l.i ≤ l.n) × (length l.m ≡ length l.initial.m) × ((k j : ℕ) → k < l.n → j < 8 * row_bytes l.n → left l.n l.m k j ≡ left l.n l.initial.m k j)
    × ((k j : ℕ) → k < l.i → j < 8 * row_bytes l.n → right l.n l.m k j ≡ identity k j)

abbrev pub decreases-loop-i : goal.decreases-loop-i
decreases-loop-i l = l.n - l.i
