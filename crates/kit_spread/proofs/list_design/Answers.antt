-- The design of the lists is refused by its own rules, or by rule 15 or 6, or is the one that was made.
use mathlib.Core.Path.{refl, ap, ◌∙◌}
use Rattle.std.specs.Prelude.{Ok}
use Rattle.design.specs.Answers.{DesignIs, DesignAllowed}
use Rattle.answers.specs.Answers.{verdict_of}
use Rattle.answers.proofs.Checks.{handed_on, refused_on}
use Rattle.kit_spread.proofs.SpreadCall.{rules_are, lists-judged}
use Rattle.kit_spread.proofs.list_design.Goals as goal

pub returns-in_err-d : goal.returns-in_err-d
unfolding DesignIs DesignAllowed
returns-in_err-d c =
    let a = c.args in
    let h = c.from_residual.ensures in
    let e = handed_on c.from_residual.result h.1 in
    (refused_on _ c.in_err-d.ensures.0 _ refl h ∙ rules_are a.own.now a.parity.now a.m a.t a.size a.col, rw e tt, rw e tt)

pub returns-in_err-check_lists : goal.returns-in_err-check_lists
unfolding DesignIs DesignAllowed verdict_of
returns-in_err-check_lists c =
    let a = c.args in
    let n = c.in_ok-d.ensures in
    let e = handed_on c.from_residual-in_err-check_lists.result c.from_residual-in_err-check_lists.ensures.1 in
    (lists-judged a.own.now a.parity.now a.m a.t a.size a.col _ n.0 n.1 _ (ap verdict_of e ∙ c.in_err-check_lists.ensures), rw e tt, rw e tt)

pub returns : goal.returns
unfolding verdict_of
returns c =
    let a = c.args in
    let n = c.in_ok-d.ensures in
    (lists-judged a.own.now a.parity.now a.m a.t a.size a.col _ n.0 n.1 (Ok c.in_ok-d.d) c.in_ok-check_lists.ensures, n.1, n.2)
