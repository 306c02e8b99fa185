-- The test of the code is that of the rule.
use mathlib.Core.Path.{sym, ap, ◌∙◌}
use mathlib.Core.Bool.{Bool, cond}
use Rattle.staircase.specs.Rules.Verdict.{accepted}
use Rattle.answers.specs.Answers.{refusal_verdict, verdict_of}
use Rattle.design.proofs.check_range.Goals as goal

pub returns-then-out_of_range : goal.returns-then-out_of_range
unfolding verdict_of
returns-then-out_of_range c =
    let a = c.args in
    sym (ap (λ (b : Bool). cond b (refusal_verdict a.refusal) accepted) (sym c.out_of_range.ensures ∙ c.if-out_of_range.true))

pub returns : goal.returns
unfolding verdict_of
returns c =
    let a = c.args in
    sym (ap (λ (b : Bool). cond b (refusal_verdict a.refusal) accepted) (sym c.out_of_range.ensures ∙ c.if-out_of_range.false))
