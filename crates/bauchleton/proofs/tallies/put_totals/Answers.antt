-- Six numbers stored into a slice of six.
use Rattle.bauchleton.proofs.tallies.put_totals.Goals as goal

pub returns : goal.returns
returns c = c.copy_from_slice.ensures.after
