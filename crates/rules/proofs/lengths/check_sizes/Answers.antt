-- Each check is a rule.
use mathlib.Core.Path.{refl, ◌∙◌}
use Rattle.answers.proofs.Checks.{refused_on, passed_then}
use Rattle.rules.proofs.lengths.check_sizes.Goals as goal

pub returns-in_err-check_count : goal.returns-in_err-check_count
returns-in_err-check_count c = refused_on _ c.in_err-check_count.ensures _ refl c.from_residual.ensures

pub returns-in_err-between : goal.returns-in_err-between
returns-in_err-between c =
    refused_on {x = c.args.between} _ refl _ c.in_err-between.was c.from_residual-in_err-between.ensures
    ∙ passed_then _ c.in_ok-check_count.ensures refl

pub returns : goal.returns
returns c =
    c.check_lengths.ensures
    ∙ passed_then {x = c.args.between} _ refl c.in_ok-between.was
    ∙ passed_then _ c.in_ok-check_count.ensures refl
