-- The loop's invariant: the first w entries, w = 2^i, are the sums of i entries of the list from `from` on. The measure is the number of entries left.
use mathlib.Core.Path.{◌≡◌}
use Prim.Native.Nat.{ℕ, ◌+◌, ◌-◌, ◌^◌, ◌≤◌, ◌<◌}
use lib.ListN.{length, get_or}
use Rattle.words_tables.specs.Tables.{sum_at}
use Rattle.words_tables.proofs.fill_table.Given as goal

abbrev pub invariant-loop-i : goal.invariant-loop-i
invariant-loop-i l =
    (l.i ≤ 8) × (l.w ≡ 2 ^ l.i) × (length l.table ≡ 256) × ((v : ℕ) → v < l.w → get_or l.table v 0 ≡ sum_at (λ k. get_or l.part (l.from + k) 0) l.i v)

abbrev pub decreases-loop-i : goal.decreases-loop-i
decreases-loop-i l = 8 - l.i
