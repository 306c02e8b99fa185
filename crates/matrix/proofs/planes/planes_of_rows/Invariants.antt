-- The loop's invariant: the bytes of the first `b` planes have their entries. The measure is the number of planes left.
use mathlib.Core.Path.{◌≡◌}
use Prim.Native.Nat.{ℕ, ◌-◌, ◌*◌, ◌/◌, ◌%◌, ◌≤◌, ◌<◌}
use lib.ListN.{length, get_or}
use Rattle.staircase.specs.System.{row_bytes}
use Rattle.matrix.specs.Packed.{padded_entry}
use Rattle.matrix.proofs.Filled.{PlaneByte}
use Rattle.matrix.proofs.planes.planes_of_rows.Given as goal

abbrev pub invariant-loop-b : goal.invariant-loop-b
invariant-loop-b l =
    (l.b ≤ row_bytes l.n) × (length l.t ≡ length l.initial.t) × ((q : ℕ) → q < l.b * l.n → PlaneByte (padded_entry l.w l.n) (q / l.n) (q % l.n) (get_or l.t q 0))

abbrev pub decreases-loop-b : goal.decreases-loop-b
decreases-loop-b l = row_bytes l.n - l.b
