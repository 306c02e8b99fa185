-- The loop's invariant: the information of the first i rows is bits.
use Prim.Native.Nat.{ℕ, ◌*◌, ◌%◌, ◌<◌}
use lib.ListN.{get_or}
use Rattle.original_encoder.proofs.check_rows.Given as goal

abbrev pub invariant-loop-i : goal.invariant-loop-i
invariant-loop-i l = (k : ℕ) → k < l.i * l.size → k % l.size < l.width → get_or l.buffer k 0 < 2
