-- The tests of the code are those of the rule.
use mathlib.Core.Path.{sym, ◌∙◌}
use native.Mathlib.Omega.{arith}
use Rattle.answers.specs.Answers.{refusal_verdict, verdict_of}
use Rattle.design.proofs.Sizes.{no_m, no_t, no_M, no_col, sizes_in}
use Rattle.design.proofs.check_size.Goals as goal

pub returns-then-out_of_range : goal.returns-then-out_of_range
unfolding verdict_of refusal_verdict
returns-then-out_of_range c =
    let a = c.args in no_m a.m a.t a.size a.col (sym c.out_of_range.ensures ∙ c.if-out_of_range.true)

pub returns-then-out_of_range-2 : goal.returns-then-out_of_range-2
unfolding verdict_of refusal_verdict
returns-then-out_of_range-2 c =
    let a = c.args in
    no_t a.m a.t a.size a.col (sym c.out_of_range.ensures ∙ c.if-out_of_range.false) (sym c.out_of_range-2.ensures ∙ c.if-out_of_range-2.true)

pub returns-then-out_of_range-3 : goal.returns-then-out_of_range-3
unfolding verdict_of refusal_verdict
returns-then-out_of_range-3 c =
    let a = c.args in
    no_M a.m a.t a.size a.col (sym c.out_of_range.ensures ∙ c.if-out_of_range.false) (sym c.out_of_range-2.ensures ∙ c.if-out_of_range-2.false)
    (sym c.out_of_range-3.ensures ∙ c.if-out_of_range-3.true)

pub returns-then-col-gt-MOST_COL : goal.returns-then-col-gt-MOST_COL
unfolding verdict_of refusal_verdict
returns-then-col-gt-MOST_COL c =
    let a = c.args in
    no_col a.m a.t a.size a.col (sym c.out_of_range.ensures ∙ c.if-out_of_range.false) (sym c.out_of_range-2.ensures ∙ c.if-out_of_range-2.false)
    (sym c.out_of_range-3.ensures ∙ c.if-out_of_range-3.false) (omega arith)

pub returns : goal.returns
unfolding verdict_of refusal_verdict
returns c =
    let a = c.args in
    sizes_in a.m a.t a.size a.col (sym c.out_of_range.ensures ∙ c.if-out_of_range.false) (sym c.out_of_range-2.ensures ∙ c.if-out_of_range-2.false)
    (sym c.out_of_range-3.ensures ∙ c.if-out_of_range-3.false) (omega arith)
