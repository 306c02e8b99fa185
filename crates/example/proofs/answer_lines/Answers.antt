-- Either answer's lines stay within the lent line.
use native.Mathlib.Omega.{arith}
use Rattle.text_write.proofs.Room.{after-counts}
use Rattle.example.proofs.answer_lines.Goals as goal

pub returns-in-Err : goal.returns-in-Err
returns-in-Err c = after-counts _ _ _ c.refusal_lines.ensures.value c.refusal_lines.ensures.out_after (omega arith)
