-- Each case is a law of a kit reader's answer.
use Rattle.bauchleton_text.proofs.Answers.{kit-made, kit-error}
use Rattle.bauchleton_text.proofs.readings.tell_kit.Goals as goal

pub returns-in-Ok : goal.returns-in-Ok
returns-in-Ok c = kit-made c.args.answer.now c.in-Ok.d c.in-Ok.is (rw (c.m.ensures, c.t.ensures, c.size.ensures) at c.tell.ensures)

pub returns-in-Err : goal.returns-in-Err
returns-in-Err c = λ s _. kit-error c.args.answer.now c.in-Err.e _ c.in-Err.is c.judge_error.ensures c.tell-in-Err.ensures s
