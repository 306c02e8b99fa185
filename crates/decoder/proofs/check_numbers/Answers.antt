-- The first refusal of the three rules.
use mathlib.Core.Path.{refl, ◌∙◌}
use Rattle.answers.proofs.Checks.{refused_on, passed_then}
use Rattle.decoder.specs.Answers.{window_numbers}
use Rattle.decoder.proofs.check_numbers.Goals as goal

pub returns-in_err-check_count : goal.returns-in_err-check_count
unfolding window_numbers
returns-in_err-check_count c = refused_on _ c.in_err-check_count.ensures _ refl c.from_residual.ensures

pub returns-in_err-check_rounds : goal.returns-in_err-check_rounds
unfolding window_numbers
returns-in_err-check_rounds c =
    refused_on _ c.in_err-check_rounds.ensures _ refl c.from_residual-in_err-check_rounds.ensures ∙ passed_then _ c.in_ok-check_count.ensures refl

pub returns : goal.returns
unfolding window_numbers
returns c =
    c.check_window.ensures ∙ passed_then _ c.in_ok-check_rounds.ensures refl ∙ passed_then _ c.in_ok-check_count.ensures refl
