-- The lines of the refusal, for any text.
use Rattle.program.proofs.Printing.{printed-refused}
use Rattle.program.proofs.put_refused.Goals as goal

pub returns : goal.returns
returns c = λ t. printed-refused _ _ t _ _ _ c.from-judged.ensures c.put_refusal.ensures
