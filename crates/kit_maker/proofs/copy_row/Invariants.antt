-- The loop's invariant: the first `k` bytes are the row's.
use Rattle.std.proofs.Common.{◌≡◌, ◌<◌, ℕ, length, get_or}
use Rattle.kit_maker.proofs.copy_row.Given as goal

abbrev pub invariant-loop-k : goal.invariant-loop-k
invariant-loop-k l = (length l.out ≡ length l.row) × ((i : ℕ) → i < l.k → get_or l.out i 0 ≡ get_or l.row i 0)
