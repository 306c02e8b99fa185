-- The loop's invariant: the places that entries before `p` name are filled. The measure is the number of entries left.
use mathlib.Core.Path.{◌≡◌}
use Prim.Native.Nat.{◌-◌, ◌≤◌}
use lib.ListN.{length}
use Rattle.staircase.specs.Rules.{entries}
use Rattle.staircase.specs.System.{preimage}
use Rattle.staircase.proofs.Fill.{Placed}
use Rattle.kit_system.proofs.fill_preimages.Given as goal

abbrev pub invariant-loop-p : goal.invariant-loop-p
invariant-loop-p l = (l.p ≤ l.n) × (length l.out ≡ l.n) × Placed l.n (preimage (entries l.n l.list) l.n) (preimage (entries l.n l.list) l.n) l.out l.p

abbrev pub decreases-loop-p : goal.decreases-loop-p
decreases-loop-p l = l.n - l.p
