-- The word checker's answer as the host is told it.
use Rattle.staircase.specs.Calls.{Counted}
use Rattle.rules_verdict.specs.Number.{number}
use Rattle.rules_verdict.proofs.Stores.{told_alike}
use Rattle.bauchleton.specs.Answers.{words_answer}
use Rattle.bauchleton.proofs.calls.bauchleton_check_words.Goals as goal

pub returns : goal.returns
returns c = told_alike (λ (z : Counted). number z.verdict) words_answer c.args.answer.now c.check_words-a.ensures c.tell_words.ensures

pub check_words-a-requires : goal.check_words-a-requires
check_words-a-requires c = tt

pub tell_words-requires : goal.tell_words-requires
tell_words-requires c = tt
