-- The lengths differ, or the number of places is told.
use mathlib.Core.Path.{sym, ap, ◌∙◌}
use mathlib.Core.List.{[], ◌∷◌}
use Prim.Native.Nat.{ℕ}
use Rattle.bch.specs.Code.{distance}
use Rattle.answers.specs.Answers.{refusal_verdict}
use Rattle.answers.proofs.Checks.{refusal_refuses, check_passed}
use Rattle.rules_verdict.specs.Number.{told}
use Rattle.rules_verdict.proofs.Stores.{judged-told}
use Rattle.bauchleton.specs.Answers.{zeros}
use Rattle.bauchleton.proofs.Answers.{accepted-told, refused-told, refusal_of}
use Rattle.bauchleton.proofs.buffers.bauchleton_differences.Goals as goal

pub returns-in-Ok : goal.returns-in-Ok
returns-in-Ok c =
    let a = c.args in
    let t = c.tell.ensures in
    accepted-told (distance a.a.now a.b.now ∷ []) a.answer.now (sym (check_passed c.in-Ok.is) ∙ c.check_length.ensures)
    (t.0, t.1 ∙ ap (λ (n : ℕ). told (0 ∷ n ∷ []) a.answer.now) c.differences.ensures)

pub returns-in-Err : goal.returns-in-Err
unfolding zeros
returns-in-Err c =
    let a = c.args in
    let r = c.in-Err.r in
    refused-told (distance a.a.now a.b.now ∷ []) a.answer.now (refusal_verdict r) (refusal_refuses r)
    (refusal_of c.in-Err.is ∙ c.check_length.ensures)
    (judged-told (0 ∷ []) a.answer.now (refusal_verdict r) c.from.ensures c.tell-in-Err.ensures)
