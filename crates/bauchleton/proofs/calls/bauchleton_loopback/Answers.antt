-- The loopback's answer as the host is told it.
use Rattle.bauchleton.specs.Answers.{corrected_answer}
use Rattle.bauchleton.proofs.Answers.{corrected-told}
use Rattle.bauchleton.proofs.calls.bauchleton_loopback.Goals as goal

pub returns : goal.returns
returns c = corrected-told corrected_answer c.args.answer.now _ c.loopback-a.ensures (c.tell_decoding.ensures _)

pub loopback-a-requires : goal.loopback-a-requires
loopback-a-requires c = tt

pub tell_decoding-requires : goal.tell_decoding-requires
tell_decoding-requires c = tt
