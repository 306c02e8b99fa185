-- The design is refused, or its order is told.
use mathlib.Core.Path.{sym, ap, ◌∙◌}
use mathlib.Core.List.{[], ◌∷◌}
use Rattle.staircase.specs.Design.{Params, params, order}
use Rattle.answers.specs.Answers.{refusal_verdict}
use Rattle.answers.proofs.Checks.{refusal_refuses, check_passed}
use Rattle.rules_verdict.proofs.Stores.{judged-told}
use Rattle.bauchleton.specs.Answers.{zeros}
use Rattle.bauchleton.proofs.Answers.{refused-told, refusal_of}
use Rattle.bauchleton.proofs.MadeTold.{made_told}
use Rattle.bauchleton.proofs.lengths.bauchleton_order.Goals as goal

pub returns-in-Ok : goal.returns-in-Ok
returns-in-Ok c =
    let a = c.args in
    let is = c.in-Ok.is in
    made_told (λ (s : Params). order s ∷ []) a.m a.t a.size a.answer.now is c.new.ensures.1 (sym (check_passed is) ∙ c.new.ensures.0)
    (ap (λ n. n ∷ []) c.order.ensures.0) c.tell.ensures

pub returns-in-Err : goal.returns-in-Err
unfolding zeros
returns-in-Err c =
    let a = c.args in
    let r = c.in-Err.r in
    refused-told (order (params a.m a.t a.size 0) ∷ []) a.answer.now (refusal_verdict r) (refusal_refuses r) (refusal_of c.in-Err.is ∙ c.new.ensures.0)
    (judged-told (0 ∷ []) a.answer.now (refusal_verdict r) c.from.ensures c.tell-in-Err.ensures)
