-- The loop's invariant: the columns of the first `c` blocks have their entries. The measure is the number of blocks left.
use mathlib.Core.Path.{◌≡◌}
use mathlib.Core.List.{List}
use Prim.Native.Nat.{ℕ, ◌-◌, ◌*◌, ◌≤◌, ◌<◌}
use lib.ListN.{length, get_or}
use Rattle.matrix.specs.Packed.{padded_entry}
use Rattle.matrix.proofs.Filled.{PlaneByte}
use Rattle.matrix.proofs.planes.plane_of_rows.Given as goal

-- a column that there is; the last block may have more
abbrev pub Column : List ℕ → ℕ → ℕ → ℕ → ℕ → Type 0
Column w n b x v = x < n → PlaneByte (padded_entry w n) b x v

abbrev pub invariant-loop-c : goal.invariant-loop-c
invariant-loop-c l = (l.c ≤ l.rb) × (length l.plane ≡ l.n) × ((x : ℕ) → x < 8 * l.c → Column l.w l.n l.b x (get_or l.plane x 0))

abbrev pub decreases-loop-c : goal.decreases-loop-c
decreases-loop-c l = l.rb - l.c
