-- A text that is too long is refused; behind that the maker is called.
use Rattle.program.proofs.Printing.{printed_as}
use Rattle.program_makekit.proofs.Making.{long-prints}
use Rattle.program_makekit.proofs.measured_kit.Goals as goal

pub returns-then-long-gt-MOST_INPUT : goal.returns-then-long-gt-MOST_INPUT
returns-then-long-gt-MOST_INPUT c =
    printed_as _ _ _ _ _ (long-prints _ _ _ _ _ _ c.kit_length-long.ensures c.if-long-gt-MOST_INPUT.true) c.put_refusal.ensures
