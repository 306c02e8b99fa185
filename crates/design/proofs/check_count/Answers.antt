-- The range of the code is that of the rule.
use mathlib.Core.Path.{◌∙◌}
use Rattle.staircase.specs.Design.{most-blocks}
use Rattle.staircase.specs.Rules.{out_of_range, count_rule}
use Rattle.answers.specs.Answers.{refusal_verdict}
use Rattle.design.proofs.Sizes.{range_rule}
use Rattle.design.proofs.check_count.Goals as goal

pub returns : goal.returns
unfolding count_rule refusal_verdict
returns c =
    let x = c.args.blocks in
    c.check_range.ensures ∙ range_rule (out_of_range 1 most-blocks x) 4 x
