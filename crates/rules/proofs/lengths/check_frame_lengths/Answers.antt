-- What is not judged has the length that is due.
use mathlib.Core.Path.{ap, ◌∙◌}
use mathlib.Core.List.{[]}
use lib.ListN.{length}
use Rattle.design.specs.Sizes.{params_of}
use Rattle.rules.specs.declared.lengths.Lengths.{Lengths}
use Rattle.rules.specs.Lengths.{lengths_rule, frame_due}
use Rattle.rules.proofs.Chain.{frame-alone}
use Rattle.rules.proofs.lengths.check_frame_lengths.Goals as goal

pub returns : goal.returns
unfolding frame_due
returns c =
    let a = c.args in
    c.check_lengths.ensures
    ∙ ap (λ (y : Lengths). lengths_rule (record { own = y.own; parity = y.parity; inverse = y.inverse; info = length a.info.now; red = length a.red.now; work = y.work }) y)
    (c.frame_due-due.ensures c.requires ∙ ap (frame_due (params_of a.d) a.blocks) c.lists_due.ensures)
    ∙ frame-alone (params_of a.d) [] [] [] a.info.now a.red.now a.blocks
