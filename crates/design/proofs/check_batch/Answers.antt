-- The range of the code is that of the rule.
use mathlib.Core.Path.{◌∙◌}
use Rattle.staircase.specs.Rules.{out_of_range}
use Rattle.staircase.specs.Batch.{most-frames, batch_rule}
use Rattle.answers.specs.Answers.{refusal_verdict}
use Rattle.design.proofs.Sizes.{range_rule}
use Rattle.design.proofs.check_batch.Goals as goal

pub returns : goal.returns
unfolding batch_rule refusal_verdict
returns c =
    let x = c.args.frames in
    c.check_range.ensures ∙ range_rule (out_of_range 1 most-frames x) 17 x
