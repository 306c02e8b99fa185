-- The sizes are those of the design.
use Rattle.staircase.specs.Rules.{word_work}
use Rattle.rules.specs.Lengths.{lists_due}
use Rattle.rules.proofs.lengths.lists_due.Goals as goal

pub returns : goal.returns
unfolding lists_due word_work
returns c = rw c.order-n.ensures.0
