-- The design is refused, or the number of blocks, or both are accepted.
use mathlib.Core.Path.{refl, sym, ◌∙◌}
use Rattle.staircase.proofs.Rules.{count_limits}
use Rattle.answers.proofs.Checks.{handed_on, refused_on, passed_then, check_passed}
use Rattle.design.specs.Answers.{DesignIs}
use Rattle.bauchleton.proofs.Answers.{last_refused, last_passed}
use Rattle.bauchleton.proofs.lengths.original_design.Goals as goal

pub returns-in_err-d-clause-verdict : goal.returns-in_err-d-clause-verdict
returns-in_err-d-clause-verdict c = refused_on _ c.in_err-d.ensures.0 _ refl c.from_residual.ensures

pub returns-in_err-d-clause-numbers : goal.returns-in_err-d-clause-numbers
unfolding DesignIs
returns-in_err-d-clause-numbers c = rw (handed_on c.from_residual.result c.from_residual.ensures.1) tt

pub returns-in_err-check_count-clause-verdict : goal.returns-in_err-check_count-clause-verdict
returns-in_err-check_count-clause-verdict c = last_refused c.check_count.result _ c.in_err-check_count.was c.check_count.ensures c.from_residual-in_err-check_count.ensures
    ∙ passed_then _ c.of_original.ensures.0 c.in_ok-d.was

pub returns-in_err-check_count-clause-numbers : goal.returns-in_err-check_count-clause-numbers
unfolding DesignIs
returns-in_err-check_count-clause-numbers c = rw (handed_on c.from_residual-in_err-check_count.result c.from_residual-in_err-check_count.ensures.1) tt

pub returns-clause-verdict : goal.returns-clause-verdict
returns-clause-verdict c = last_passed c.check_count.result c.in_ok-d.d c.in_ok-check_count.was c.check_count.ensures ∙ passed_then _ c.of_original.ensures.0 c.in_ok-d.was

pub returns-clause-numbers : goal.returns-clause-numbers
returns-clause-numbers c = c.in_ok-d.ensures.1

pub returns-clause-count : goal.returns-clause-count
returns-clause-count c = (count_limits c.args.blocks (sym c.in_ok-check_count.ensures ∙ check_passed refl)).1
