-- Each case by its definition.
use Rattle.answers.specs.declared.Refusal.{Refusal}
use Rattle.std.specs.Prelude.{ℕ, Result}
use mathlib.Core.Path.{sym}
use mathlib.Core.List.{[], ◌∷◌}
use Rattle.text_kit_write.specs.Checks.{measured_of}
use Rattle.rules_verdict.specs.Number.{number, place_of}
use Rattle.bauchleton_text.specs.Answers.{length_answer}
use Rattle.rules_verdict.proofs.Stores.{told_alike, judged-told}
use Rattle.bauchleton_text.proofs.writing.tell_length.Goals as goal

pub returns-in-Ok : goal.returns-in-Ok
unfolding number place_of measured_of
returns-in-Ok c =
    told_alike (λ (x : Result ℕ Refusal). number (measured_of x).verdict) (λ (x : Result ℕ Refusal). length_answer (measured_of x)) c.args.answer.now (sym c.in-Ok.is)
    c.tell.ensures

pub returns-in-Err : goal.returns-in-Err
unfolding measured_of
returns-in-Err c =
    let l = c.args.answer.now in
    told_alike (λ (x : Result ℕ Refusal). number (measured_of x).verdict) (λ (x : Result ℕ Refusal). length_answer (measured_of x)) l (sym c.in-Err.is)
    (judged-told (0 ∷ []) l _ c.from.ensures c.tell-in-Err.ensures)
