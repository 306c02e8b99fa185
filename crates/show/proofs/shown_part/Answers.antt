-- A block has M × M bytes and a group 2 M r, which are the code's sizes.
use mathlib.Core.Path.{◌∙◌}
use Rattle.show.specs.Answers.{part_of}
use Rattle.show.specs.Show.{HasPart}
use Rattle.show.proofs.shown_part.Goals as goal

pub stretch_of-requires : goal.stretch_of-requires
unfolding HasPart part_of
stretch_of-requires c =
    rw c.area-block_size.ensures.0
    (rw c.in-Block.is at c.requires)

pub stretch_of-requires-in-Group : goal.stretch_of-requires-in-Group
unfolding HasPart part_of
stretch_of-requires-in-Group c =
    rw c.order-group_size.ensures.0
    (rw c.in-Group.is at c.requires)

pub returns-in-Block : goal.returns-in-Block
unfolding part_of
returns-in-Block c = c.stretch_of.ensures ∙ rw (c.area-block_size.ensures.0, c.in-Block.is)

pub returns-in-Group : goal.returns-in-Group
unfolding part_of
returns-in-Group c = c.stretch_of-in-Group.ensures ∙ rw (c.order-group_size.ensures.0, c.in-Group.is)
