-- A case for each kind.
use mathlib.Core.Path.{sym, ap, ◌∙◌}
use Rattle.design.specs.Sizes.{params_of}
use Rattle.layout.specs.declared.Shape.{Shape}
use Rattle.layout.specs.Layouts.{turns_in}
use Rattle.layout.proofs.turns.Goals as goal

pub returns-in-FeedForward : goal.returns-in-FeedForward
unfolding turns_in
returns-in-FeedForward c = c.mirrored.ensures ∙ ap (λ (z : Shape). turns_in z (params_of c.args.frames.d)) (sym c.in-FeedForward.is)

pub returns-in-Original : goal.returns-in-Original
unfolding turns_in
returns-in-Original c = ap (λ (z : Shape). turns_in z (params_of c.args.frames.d)) (sym c.in-Original.is)
