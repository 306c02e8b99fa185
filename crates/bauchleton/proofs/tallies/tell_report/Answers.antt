-- Nine numbers told.
use Rattle.bauchleton.proofs.tallies.tell_report.Goals as goal

pub returns : goal.returns
returns c = c.tell.ensures
