-- What is counted, and what the rest of both buffers adds, is the whole.
use mathlib.Core.Path.{◌≡◌}
use Prim.Native.Nat.{◌+◌, ◌≤◌}
use lib.ListN.{length, drop}
use Rattle.bch.specs.Code.{distance}
use Rattle.differences.proofs.differences.Given as goal

abbrev pub invariant-loop-x : goal.invariant-loop-x
invariant-loop-x l =
    (l.n ≤ length l.yielded) × (length l.yielded ≤ length l.a) × (l.n + distance (drop (length l.yielded) l.a) (drop (length l.yielded) l.b) ≡ distance l.a l.b)
