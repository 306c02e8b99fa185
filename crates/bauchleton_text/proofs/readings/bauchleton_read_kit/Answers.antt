-- The reader's verdict as the host is told it, and what the reader leaves.
use Rattle.staircase.specs.Rules.{Verdict}
use Rattle.text.specs.KitReader.{read_kit_call}
use Rattle.bauchleton_text.specs.Answers.{kit_answer}
use Rattle.bauchleton_text.proofs.Answers.{told-by}
use Rattle.bauchleton_text.proofs.readings.bauchleton_read_kit.Goals as goal

pub returns : goal.returns
returns c =
    let a = c.args in
    let s = a.text.now in
    let k = c.read_kit-a.ensures in
    let q = told-by (λ (v : Verdict). kit_answer v s) a.answer.now {v = (read_kit_call s a.own.now a.parity.now a.inverse.now).verdict} k.result_value (c.tell_kit.ensures s k.kit_design) in
    (q.0, k.own_after, k.parity_after, k.inverse_after, q.1)
