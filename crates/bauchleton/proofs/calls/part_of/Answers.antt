-- Each case is a law of what is shown.
use Rattle.show.specs.Answers.{part_of}
use Rattle.bauchleton.proofs.Answers.{part-block, part-group}
use Rattle.bauchleton.proofs.calls.part_of.Goals as goal

pub returns-then-kind-eq0 : goal.returns-then-kind-eq0
unfolding part_of
returns-then-kind-eq0 c = part-block _ _ c.if-kind-eq0.true

pub returns : goal.returns
unfolding part_of
returns c = part-group _ _ c.if-kind-eq0.false
