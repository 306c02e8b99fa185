-- The loop's invariant: the marks tell which numbers are among the first `p` entries, and no entry before `p` is bad. The measure is the number
-- of entries left.
use mathlib.Core.Path.{◌≡◌}
use mathlib.Core.Bool.{false}
use Prim.Native.Nat.{ℕ, ◌-◌, ◌≤◌, ◌<◌}
use lib.ListN.{length}
use Rattle.staircase.specs.Rules.{entries, bad_entry}
use Rattle.rules.proofs.Entries.{Marked}
use Rattle.rules.proofs.check_list.Given as goal

abbrev pub invariant-loop-p : goal.invariant-loop-p
invariant-loop-p l =
    (l.p ≤ l.n) × (length l.marks ≡ l.n) × Marked (entries l.n l.list) l.n l.marks l.p × ((k : ℕ) → k < l.p → bad_entry l.n (entries l.n l.list) k ≡ false)

abbrev pub decreases-loop-p : goal.decreases-loop-p
decreases-loop-p l = l.n - l.p
