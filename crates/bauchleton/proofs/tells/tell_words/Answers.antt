-- Each case by its definition.
use Rattle.answers.specs.declared.Refusal.{Refusal}
use Rattle.std.specs.Prelude.{ℕ, Result}
use mathlib.Core.Path.{sym}
use mathlib.Core.List.{[], ◌∷◌}
use Rattle.answers.specs.Answers.{counted_of}
use Rattle.rules_verdict.specs.Number.{number, place_of}
use Rattle.bauchleton.specs.Answers.{words_answer}
use Rattle.rules_verdict.proofs.Stores.{told_alike, judged-told}
use Rattle.bauchleton.proofs.tells.tell_words.Goals as goal

pub returns-in-Ok : goal.returns-in-Ok
unfolding number place_of counted_of
returns-in-Ok c =
    told_alike (λ (x : Result ℕ Refusal). number (counted_of x).verdict) (λ (x : Result ℕ Refusal). words_answer (counted_of x)) c.args.answer.now (sym c.in-Ok.is) c.tell.ensures

pub returns-in-Err : goal.returns-in-Err
unfolding counted_of
returns-in-Err c =
    let l = c.args.answer.now in
    told_alike (λ (x : Result ℕ Refusal). number (counted_of x).verdict) (λ (x : Result ℕ Refusal). words_answer (counted_of x)) l (sym c.in-Err.is)
    (judged-told (0 ∷ []) l _ c.from.ensures c.tell-in-Err.ensures)
