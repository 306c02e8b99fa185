-- The lists that are filled are those that the text shows.
use Rattle.program.proofs.Printing.{printed_as}
use Rattle.program_makekit.proofs.Making.{kit_shown}
use Rattle.program_makekit.proofs.filled_lists.Goals as goal

pub returns : goal.returns
returns c =
    let lists = c.fill_lists.ensures in
    let shown = kit_shown _ _ _ c.requires.listed.0 _ _ _ c.order.ensures.0 lists.own_after lists.parity_after in
    printed_as _ _ _ _ _ shown c.measured_kit.ensures
