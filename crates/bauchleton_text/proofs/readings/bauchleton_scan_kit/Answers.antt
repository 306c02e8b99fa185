-- The reader's verdict as the host is told it.
use Rattle.staircase.specs.Rules.{Verdict}
use Rattle.bauchleton_text.specs.Answers.{kit_answer}
use Rattle.bauchleton_text.proofs.Answers.{told-by}
use Rattle.bauchleton_text.proofs.readings.bauchleton_scan_kit.Goals as goal

pub returns : goal.returns
returns c =
    let a = c.args in
    let s = a.text.now in
    let k = c.scan_kit-a.ensures in
    told-by (λ (v : Verdict). kit_answer v s) a.answer.now k.result_value (c.tell_kit.ensures s k.kit_design)
