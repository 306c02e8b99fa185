-- There is room for the two lines.
use Rattle.program.proofs.Printing.{printed_refusal}
use Rattle.program.proofs.put_refusal.Goals as goal

pub returns : goal.returns
returns c = printed_refusal _ _ _ _ _ c.requires c.refusal_lines.ensures.value c.refusal_lines.ensures.out_after
