-- The loop's invariant: the entries from `i` on are the powers of their positions, and `v` is the power that position `i - 1` carries.
use mathlib.Core.Path.{◌≡◌}
use Prim.Native.Nat.{ℕ, ◌-◌, ◌≤◌, ◌<◌}
use lib.ListN.{length, get_or}
use Rattle.bch.specs.Powers.{power_mod}
use Rattle.bch_remainders.proofs.fill_positions.Given as goal

abbrev pub invariant-loop-i : goal.invariant-loop-i
invariant-loop-i l =
    (l.v ≡ power_mod l.g l.r (length l.initial.table - l.i))
    × ((k : ℕ) → l.i ≤ k → k < length l.initial.table → get_or l.table k 0 ≡ power_mod l.g l.r (length l.initial.table - 1 - k))
