-- After p lines: `Filled` of proofs/Filling.antt.
use Rattle.text_kit_fill.proofs.Filling.{Filled}
use Rattle.text_kit_fill.proofs.fill_lists.Given as goal

abbrev pub invariant-loop-p : goal.invariant-loop-p
invariant-loop-p l = Filled l.s l.at l.n l.initial.own l.initial.parity l.own l.parity l.q l.p
