-- The loop's invariant: the entries before `p` are filled.
use Rattle.decoder_locator.proofs.Fours.{Filled}
use Rattle.decoder_locator.proofs.fill_sums.Given as goal

abbrev pub invariant-loop-p : goal.invariant-loop-p
invariant-loop-p l = Filled l.m l.p l.sum-items
