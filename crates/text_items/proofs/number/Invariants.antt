-- No number, a number that starts with 0, and digit after digit: `Leading` of proofs/Numbers.antt.
use Rattle.text_items.proofs.Numbers.{Leading}
use Rattle.text_items.proofs.number.Given as goal

abbrev pub invariant-loop-n : goal.invariant-loop-n
invariant-loop-n l = Leading l.s l.at l.n l.v
