-- After p lines: `Packed` of proofs/RowFilling.antt.
use Rattle.text_kit_fill.proofs.RowFilling.{Packed}
use Rattle.text_kit_fill.proofs.fill_inverse.Given as goal

abbrev pub invariant-loop-p : goal.invariant-loop-p
invariant-loop-p l = Packed l.s l.at l.n l.initial.inverse l.inverse l.q l.p
