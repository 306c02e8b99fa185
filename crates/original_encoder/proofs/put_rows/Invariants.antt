-- The loop's invariant: the digits of the first rows are written.
use lib.ListN.{length, get_or}
use Rattle.original_encoder.specs.Written.{RowsAt}
use Rattle.original_encoder.proofs.put_rows.Given as goal

abbrev pub invariant-loop-a : goal.invariant-loop-a
invariant-loop-a l = RowsAt l.a (length l.sums) l.r l.at (λ i. get_or l.sums i 0) l.initial.buffer l.buffer
