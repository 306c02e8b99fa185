-- Sixteen numbers told.
use Rattle.bauchleton.proofs.sizes.tell_sizes.Goals as goal

pub returns : goal.returns
returns c = c.tell.ensures
