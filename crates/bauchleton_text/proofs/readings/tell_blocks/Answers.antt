-- Each case is a law of a reader's answer.
use Rattle.bauchleton_text.proofs.Answers.{blocks-counted, blocks-error}
use Rattle.bauchleton_text.proofs.readings.tell_blocks.Goals as goal

pub returns-in-Ok : goal.returns-in-Ok
returns-in-Ok c = blocks-counted c.args.answer.now c.in-Ok.n c.in-Ok.is c.tell.ensures

pub returns-in-Err : goal.returns-in-Err
returns-in-Err c = λ L _. blocks-error c.args.answer.now c.in-Err.e _ c.in-Err.is c.judge_error.ensures c.tell-in-Err.ensures L
