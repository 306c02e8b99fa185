-- Each check's refusal is the answer, and one that passes leaves it to the next. A count that passed is small.
use mathlib.Core.Path.{refl, sym, ◌∙◌}
use Rattle.show.specs.Show.{frame_rules}
use Rattle.answers.proofs.Checks.{refused_on, passed_then, check_passed}
use Rattle.staircase.proofs.Rules.{count_limits}
use Rattle.show.proofs.check_frame.Goals as goal

pub returns-in_err-check_count : goal.returns-in_err-check_count
unfolding frame_rules
returns-in_err-check_count c = refused_on _ c.in_err-check_count.ensures _ refl c.from_residual.ensures

pub check_part-requires : goal.check_part-requires
check_part-requires c = (count_limits _ (sym c.in_ok-check_count.ensures ∙ check_passed refl)).1

pub returns-in_err-check_part : goal.returns-in_err-check_part
unfolding frame_rules
returns-in_err-check_part c =
    refused_on _ c.in_err-check_part.ensures _ refl c.from_residual-in_err-check_part.ensures ∙ passed_then _ c.in_ok-check_count.ensures refl

pub check_frame_lengths-requires : goal.check_frame_lengths-requires
check_frame_lengths-requires c = (count_limits _ (sym c.in_ok-check_count.ensures ∙ check_passed refl)).1

pub returns : goal.returns
unfolding frame_rules
returns c =
    c.check_frame_lengths.ensures ∙ passed_then _ c.in_ok-check_part.ensures refl ∙ passed_then _ c.in_ok-check_count.ensures refl
