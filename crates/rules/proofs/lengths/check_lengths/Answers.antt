-- Each of the six is rule 6 for its slice.
use mathlib.Core.Path.{refl, ◌∙◌}
use Rattle.rules.specs.Lengths.{lengths_rule}
use Rattle.answers.proofs.Checks.{refused_on, passed_then}
use Rattle.rules.proofs.lengths.check_lengths.Goals as goal

pub returns-in_err-check_length : goal.returns-in_err-check_length
unfolding lengths_rule
returns-in_err-check_length c = refused_on _ c.in_err-check_length.ensures _ refl c.from_residual.ensures

pub returns-in_err-check_length-2 : goal.returns-in_err-check_length-2
unfolding lengths_rule
returns-in_err-check_length-2 c =
    refused_on _ c.in_err-check_length-2.ensures _ refl c.from_residual-in_err-check_length-2.ensures
    ∙ passed_then _ c.in_ok-check_length.ensures refl

pub returns-in_err-check_length-3 : goal.returns-in_err-check_length-3
unfolding lengths_rule
returns-in_err-check_length-3 c =
    refused_on _ c.in_err-check_length-3.ensures _ refl c.from_residual-in_err-check_length-3.ensures
    ∙ passed_then _ c.in_ok-check_length-2.ensures refl
    ∙ passed_then _ c.in_ok-check_length.ensures refl

pub returns-in_err-check_length-4 : goal.returns-in_err-check_length-4
unfolding lengths_rule
returns-in_err-check_length-4 c =
    refused_on _ c.in_err-check_length-4.ensures _ refl c.from_residual-in_err-check_length-4.ensures
    ∙ passed_then _ c.in_ok-check_length-3.ensures refl
    ∙ passed_then _ c.in_ok-check_length-2.ensures refl
    ∙ passed_then _ c.in_ok-check_length.ensures refl

pub returns-in_err-check_length-5 : goal.returns-in_err-check_length-5
unfolding lengths_rule
returns-in_err-check_length-5 c =
    refused_on _ c.in_err-check_length-5.ensures _ refl c.from_residual-in_err-check_length-5.ensures
    ∙ passed_then _ c.in_ok-check_length-4.ensures refl
    ∙ passed_then _ c.in_ok-check_length-3.ensures refl
    ∙ passed_then _ c.in_ok-check_length-2.ensures refl
    ∙ passed_then _ c.in_ok-check_length.ensures refl

pub returns : goal.returns
unfolding lengths_rule
returns c =
    c.check_length-6.ensures
    ∙ passed_then _ c.in_ok-check_length-5.ensures refl
    ∙ passed_then _ c.in_ok-check_length-4.ensures refl
    ∙ passed_then _ c.in_ok-check_length-3.ensures refl
    ∙ passed_then _ c.in_ok-check_length-2.ensures refl
    ∙ passed_then _ c.in_ok-check_length.ensures refl
