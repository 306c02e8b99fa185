-- The first refusal of the two rules.
use mathlib.Core.Path.{refl, ◌∙◌}
use Rattle.answers.proofs.Checks.{refused_on, passed_then}
use Rattle.kit_spread.proofs.check_lists.Goals as goal

pub returns-in_err-check_narrow : goal.returns-in_err-check_narrow
returns-in_err-check_narrow c = refused_on _ c.in_err-check_narrow.ensures _ refl c.from_residual.ensures

pub returns : goal.returns
returns c = c.check_list_lengths.ensures ∙ passed_then _ c.in_ok-check_narrow.ensures refl
