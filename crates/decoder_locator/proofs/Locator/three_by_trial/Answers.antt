use native.Mathlib.Omega.{arith}
use Rattle.decoder_locator.specs.Steps.{TripleIs, TripleWith}
use Rattle.decoder_locator.proofs.Triples.{not-before-more, not_three}
use Rattle.decoder_locator.proofs.Locator.three_by_trial.Goals as goal

pub returns-in-Some : goal.returns-in-Some
unfolding TripleWith
returns-in-Some c = c.in-Some.ensures

pub loop-j-preserved : goal.loop-j-preserved
unfolding TripleWith
loop-j-preserved c =
    (omega arith, omega arith, not-before-more c.args.self.now.positions.now c.args.x c.loop-j.j c.loop-j.invariant.2 c.in_default.ensures)

pub returns : goal.returns
unfolding TripleIs
returns c =
    not_three c.args.self.now.positions.now c.args.x c.loop-j.j (omega arith) c.loop-j.invariant.2
