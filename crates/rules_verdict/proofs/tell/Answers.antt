-- Each case is a law of what is stored.
use mathlib.Core.Path.{refl}
use native.Mathlib.Omega.{arith}
use Rattle.rules_verdict.proofs.Stores.{told_all, told_other}
use Rattle.rules_verdict.proofs.tell.Goals as goal

pub returns-then-answer-numbers : goal.returns-then-answer-numbers
returns-then-answer-numbers c = (refl, rw c.copy_from_slice.ensures.after (told_all _ _ _ c.if-answer-numbers.true))

pub returns-else-answer-numbers : goal.returns-else-answer-numbers
returns-else-answer-numbers c = (refl, told_other _ _ (λ e. c.if-answer-numbers.false (omega arith)))
