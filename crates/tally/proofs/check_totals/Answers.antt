-- Each of the six is rule 16 for its total.
use mathlib.Core.Path.{refl, ◌∙◌}
use Rattle.staircase.specs.Tally.{full_rule}
use Rattle.answers.proofs.Checks.{refused_on, passed_then}
use Rattle.tally.proofs.check_totals.Goals as goal

pub returns-in_err-check_total : goal.returns-in_err-check_total
unfolding full_rule
returns-in_err-check_total c =
    refused_on _ c.in_err-check_total.ensures _ refl c.from_residual.ensures

pub returns-in_err-check_total-2 : goal.returns-in_err-check_total-2
unfolding full_rule
returns-in_err-check_total-2 c =
    refused_on _ c.in_err-check_total-2.ensures _ refl c.from_residual-in_err-check_total-2.ensures
    ∙ passed_then _ c.in_ok-check_total.ensures refl

pub returns-in_err-check_total-3 : goal.returns-in_err-check_total-3
unfolding full_rule
returns-in_err-check_total-3 c =
    refused_on _ c.in_err-check_total-3.ensures _ refl c.from_residual-in_err-check_total-3.ensures
    ∙ passed_then _ c.in_ok-check_total-2.ensures refl
    ∙ passed_then _ c.in_ok-check_total.ensures refl

pub returns-in_err-check_total-4 : goal.returns-in_err-check_total-4
unfolding full_rule
returns-in_err-check_total-4 c =
    refused_on _ c.in_err-check_total-4.ensures _ refl c.from_residual-in_err-check_total-4.ensures
    ∙ passed_then _ c.in_ok-check_total-3.ensures refl
    ∙ passed_then _ c.in_ok-check_total-2.ensures refl
    ∙ passed_then _ c.in_ok-check_total.ensures refl

pub returns-in_err-check_total-5 : goal.returns-in_err-check_total-5
unfolding full_rule
returns-in_err-check_total-5 c =
    refused_on _ c.in_err-check_total-5.ensures _ refl c.from_residual-in_err-check_total-5.ensures
    ∙ passed_then _ c.in_ok-check_total-4.ensures refl
    ∙ passed_then _ c.in_ok-check_total-3.ensures refl
    ∙ passed_then _ c.in_ok-check_total-2.ensures refl
    ∙ passed_then _ c.in_ok-check_total.ensures refl

pub returns : goal.returns
unfolding full_rule
returns c =
    c.check_total-6.ensures
    ∙ passed_then _ c.in_ok-check_total-5.ensures refl
    ∙ passed_then _ c.in_ok-check_total-4.ensures refl
    ∙ passed_then _ c.in_ok-check_total-3.ensures refl
    ∙ passed_then _ c.in_ok-check_total-2.ensures refl
    ∙ passed_then _ c.in_ok-check_total.ensures refl
