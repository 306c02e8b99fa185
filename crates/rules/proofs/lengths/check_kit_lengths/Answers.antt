-- What is not judged has the length that is due.
use mathlib.Core.Path.{ap, ◌∙◌}
use mathlib.Core.List.{[]}
use lib.ListN.{length}
use Rattle.design.specs.Sizes.{params_of}
use Rattle.rules.specs.declared.lengths.Lengths.{Lengths}
use Rattle.rules.specs.Lengths.{lengths_rule}
use Rattle.rules.proofs.Chain.{kit-alone}
use Rattle.rules.proofs.lengths.check_kit_lengths.Goals as goal

pub returns : goal.returns
returns c =
    let a = c.args in
    c.check_lengths.ensures
    ∙ ap (λ (y : Lengths). lengths_rule (record { own = length a.own.now; parity = length a.parity.now; inverse = length a.inverse.now; info = y.info; red = y.red; work = y.work }) y)
    c.kit_due-due.ensures
    ∙ kit-alone (params_of a.d) a.own.now a.parity.now a.inverse.now [] [] 0
