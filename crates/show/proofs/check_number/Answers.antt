-- The test of the code is that of the rule.
use mathlib.Core.Path.{◌∙◌, sym, ap}
use mathlib.Core.Bool.{Bool}
use Rattle.staircase.specs.Rules.{refuse}
use Rattle.answers.specs.Answers.{refusal_verdict, verdict_of}
use Rattle.show.proofs.check_number.Goals as goal

pub returns-then-out_of_range : goal.returns-then-out_of_range
unfolding verdict_of refusal_verdict
returns-then-out_of_range c = sym (ap (λ (b : Bool). refuse b 4 c.args.number) (sym c.out_of_range.ensures ∙ c.if-out_of_range.true))

pub returns : goal.returns
unfolding verdict_of refusal_verdict
returns c = sym (ap (λ (b : Bool). refuse b 4 c.args.number) (sym c.out_of_range.ensures ∙ c.if-out_of_range.false))
