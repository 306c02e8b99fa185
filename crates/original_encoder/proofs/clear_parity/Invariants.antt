-- The loop's invariant: the parity of the first i rows is 0.
use Rattle.original_encoder.specs.Written.{RowsAt}
use Rattle.original_encoder.proofs.clear_parity.Given as goal

abbrev pub invariant-loop-i : goal.invariant-loop-i
invariant-loop-i l = RowsAt l.i l.size l.r 0 (λ a. 0) l.initial.buffer l.buffer
