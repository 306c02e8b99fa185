-- A case for each kind.
use mathlib.Core.Path.{sym, ap, ◌∙◌}
use native.Mathlib.Omega.{arith}
use Rattle.design.specs.Sizes.{params_of}
use Rattle.layout.specs.declared.Shape.{Shape}
use Rattle.layout.specs.Layouts.{tail_in}
use Rattle.layout.proofs.tail_bits.Goals as goal

pub returns-in-FeedForward : goal.returns-in-FeedForward
unfolding tail_in
returns-in-FeedForward c =
    (c.r.ensures.0 ∙ ap (λ (z : Shape). tail_in z (params_of c.args.frames.d)) (sym c.in-FeedForward.is), omega (arith, c.r.ensures.1))

pub returns-in-Original : goal.returns-in-Original
unfolding tail_in
returns-in-Original c = (ap (λ (z : Shape). tail_in z (params_of c.args.frames.d)) (sym c.in-Original.is), omega arith)
