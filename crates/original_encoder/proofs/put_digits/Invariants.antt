-- The loop's invariant: the digits from j on are written, and `rest` is what they leave.
use Rattle.original_encoder.proofs.Digits.{Last}
use Rattle.original_encoder.proofs.put_digits.Given as goal

abbrev pub invariant-loop-j : goal.invariant-loop-j
invariant-loop-j l = Last l.j l.r l.from l.x l.rest l.initial.buffer l.buffer
