-- After a refusal by rule 1 the rest does not count, and after its acceptance the rest decides.
use mathlib.Core.Path.{refl, sym, ◌∙◌}
use Rattle.answers.proofs.Checks.{handed_on, refused_on, passed_then, check_passed}
use Rattle.original.specs.Rules.{original_rules}
use Rattle.design.specs.Answers.{DesignIs, DesignOriginal}
use Rattle.design.proofs.Design.of_original_col.Goals as goal

pub original-requires : goal.original-requires
original-requires c = sym (c.in_ok-check_size.ensures) ∙ check_passed refl

pub returns-in_err-check_size : goal.returns-in_err-check_size
unfolding original_rules DesignIs DesignOriginal
returns-in_err-check_size c =
    let e = handed_on c.from_residual.result c.from_residual.ensures.1 in
    (refused_on _ c.in_err-check_size.ensures _ refl c.from_residual.ensures, rw e tt, rw e tt)

pub returns : goal.returns
unfolding original_rules
returns c = let rest = c.original.ensures in (rest.0 ∙ passed_then _ c.in_ok-check_size.ensures refl, rest.1, rest.2)
