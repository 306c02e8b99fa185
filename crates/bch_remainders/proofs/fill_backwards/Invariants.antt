-- The loop's invariant: the first `j` entries are the last ones of the table.
use Rattle.std.proofs.Common.{◌≡◌, ◌-◌, ◌<◌, ℕ, length, get_or}
use Rattle.bch_remainders.proofs.fill_backwards.Given as goal

abbrev pub invariant-loop-j : goal.invariant-loop-j
invariant-loop-j l = (length l.out ≡ length l.table) × ((k : ℕ) → k < l.j → get_or l.out k 0 ≡ get_or l.table (length l.table - 1 - k) 0)
