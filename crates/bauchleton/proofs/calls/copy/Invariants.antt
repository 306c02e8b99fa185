-- The loop's invariant: the first `k` bits are copied.
use Rattle.std.proofs.Common.{◌≡◌, ◌<◌, ℕ, length, get_or}
use Rattle.bauchleton.proofs.calls.copy.Given as goal

abbrev pub invariant-loop-k : goal.invariant-loop-k
invariant-loop-k l = (length l.out ≡ length l.bits) × ((i : ℕ) → i < l.k → get_or l.out i 0 ≡ get_or l.bits i 0)
