-- A refusal of the first list is the answer; otherwise the second list's is.
use mathlib.Core.Path.{refl, ◌∙◌}
use Rattle.answers.proofs.Checks.{refused_on, passed_then}
use Rattle.rules.proofs.check_lists.Goals as goal

pub returns-in_err-check_list : goal.returns-in_err-check_list
returns-in_err-check_list c = refused_on _ c.in_err-check_list.ensures _ refl c.from_residual.ensures

pub returns : goal.returns
returns c = c.check_list-2.ensures ∙ passed_then _ c.in_ok-check_list.ensures refl
