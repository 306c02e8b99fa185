-- Each case by its definition.
use Rattle.answers.specs.Answers.{verdict_of}
use Rattle.answers.specs.declared.Refusal.{Refusal}
use Rattle.std.specs.Prelude.{ℕ, Result}
use mathlib.Core.Path.{sym}
use mathlib.Core.List.{[], ◌∷◌}
use Rattle.generator.specs.Answers.{load_state}
use Rattle.rules_verdict.specs.Number.{number, place_of}
use Rattle.rules_verdict.proofs.Stores.{told_alike, judged-told}
use Rattle.bauchleton.proofs.tells.tell_load.Goals as goal

pub returns-in-Ok : goal.returns-in-Ok
unfolding number place_of verdict_of load_state
returns-in-Ok c =
    told_alike (λ (x : Result ℕ Refusal). number (verdict_of x)) (λ (x : Result ℕ Refusal). place_of (verdict_of x) ∷ load_state x ∷ [])
    c.args.answer.now (sym c.in-Ok.is) (rw c.from.ensures at c.tell.ensures)

pub returns-in-Err : goal.returns-in-Err
unfolding verdict_of load_state
returns-in-Err c =
    let l = c.args.answer.now in
    told_alike (λ (x : Result ℕ Refusal). number (verdict_of x)) (λ (x : Result ℕ Refusal). place_of (verdict_of x) ∷ load_state x ∷ []) l
    (sym c.in-Err.is)
    (judged-told (0 ∷ []) l _ c.from-in-Err.ensures c.tell-in-Err.ensures)
