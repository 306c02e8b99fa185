-- The loop's invariant: `a` has the bits that are done, in the other order, and before the reversed bits of `p` makes the reversed polynomial. The measure is
-- the number of bits left.
use mathlib.Core.Path.{◌≡◌}
use Prim.Native.Nat.{◌+◌, ◌-◌, ◌*◌, ◌^◌, ◌≤◌, ◌<◌}
use Rattle.bch.specs.Mirror.{reversed}
use Rattle.bch_remainders.proofs.mirror_of.Given as goal

abbrev pub invariant-loop-i : goal.invariant-loop-i
invariant-loop-i l = (l.bits ≡ l.r + 1) × (l.i ≤ l.bits) × (l.a < 2 ^ l.i) × (l.a * 2 ^ (l.bits - l.i) + reversed (l.bits - l.i) l.p ≡ reversed l.bits l.g)

abbrev pub decreases-loop-i : goal.decreases-loop-i
decreases-loop-i l = l.bits - l.i
