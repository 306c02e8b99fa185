-- The check between is a rule.
use mathlib.Core.Path.{ap, ◌∙◌}
use Rattle.staircase.specs.Rules.{Verdict, ◌then◌, count_rule}
use Rattle.rules.specs.Lengths.{lengths_rule, batch_size_rules}
use Rattle.rules.proofs.lengths.check_batch.Goals as goal

pub returns : goal.returns
unfolding batch_size_rules
returns c =
    let a = c.args in
    c.check_sizes.ensures ∙ ap (λ (v : Verdict). count_rule a.blocks then v then lengths_rule a.have a.due) c.check_batch.ensures
