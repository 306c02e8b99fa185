-- A bit of 1 is added to the marks.
use Rattle.decoder_marks.proofs.Marks.{toggled}
use Rattle.decoder_marks.proofs.toggle.Goals as goal

pub returns : goal.returns
returns c = toggled _ _ _ c.add_bit.ensures.0 c.add_bit.ensures.1
