-- The length as the host is told it.
use Rattle.text.specs.KitWriter.{Measured}
use Rattle.rules_verdict.specs.Number.{number}
use Rattle.bauchleton_text.specs.Answers.{length_answer}
use Rattle.rules_verdict.proofs.Stores.{told_alike}
use Rattle.bauchleton_text.proofs.writing.bauchleton_kit_text_length.Goals as goal

pub returns : goal.returns
returns c = told_alike (λ (x : Measured). number x.verdict) length_answer c.args.answer.now c.text_length-a.ensures c.tell_length.ensures
