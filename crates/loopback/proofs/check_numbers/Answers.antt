-- A refusal of rules 1 to 3 is the answer, then one of rule 4; else that of rule 5.
use mathlib.Core.Path.{refl, ◌∙◌}
use Rattle.answers.proofs.Checks.{refused_on, passed_then}
use Rattle.loopback.specs.Link.{number_rules}
use Rattle.loopback.proofs.check_numbers.Goals as goal

pub returns-in_err-new_col : goal.returns-in_err-new_col
unfolding number_rules
returns-in_err-new_col c = refused_on _ c.in_err-new_col.ensures.0 _ refl c.from_residual.ensures

pub returns-in_err-check_count : goal.returns-in_err-check_count
unfolding number_rules
returns-in_err-check_count c =
    refused_on _ c.in_err-check_count.ensures _ refl c.from_residual-in_err-check_count.ensures ∙ passed_then _ c.in_ok-new_col.ensures.0 refl

pub returns : goal.returns
unfolding number_rules
returns c =
    c.check_rounds.ensures ∙ passed_then _ c.in_ok-check_count.ensures refl ∙ passed_then _ c.in_ok-new_col.ensures.0 refl
