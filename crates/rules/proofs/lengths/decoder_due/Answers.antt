-- The sizes are those of the design, and fit.
use mathlib.Core.Path.{ap, ◌∙◌}
use Rattle.staircase.specs.Rules.{word_work, kept_work, decoder_work}
use Rattle.design.specs.Sizes.{params_of}
use Rattle.rules.specs.Lengths.{decoder_due}
use Rattle.rules.proofs.lengths.decoder_due.Goals as goal

pub returns : goal.returns
unfolding decoder_due decoder_work word_work
returns c =
    λ few.
    let d = c.args.d in
    rw (c.order-n.ensures.0, c.kept_work-kept.ensures.0 ∙ ap (kept_work (params_of d)) (c.blocks_allowed.ensures.1 few))
