-- A case for each kind.
use mathlib.Core.Path.{sym, ap, ◌∙◌}
use Prim.Native.Nat.{ℕ, ◌*◌}
use native.Mathlib.Omega.{arith}
use Rattle.design.specs.Sizes.{params_of}
use Rattle.layout.specs.declared.Shape.{Shape}
use Rattle.layout.specs.Layouts.{bits_in}
use Rattle.layout.proofs.word_bits.Goals as goal

pub returns-in-FeedForward : goal.returns-in-FeedForward
unfolding bits_in
returns-in-FeedForward c =
    (c.n.ensures.0 ∙ ap (λ (z : Shape). bits_in z (params_of c.args.frames.d)) (sym c.in-FeedForward.is), omega (arith, c.n.ensures.1))

pub returns-in-Original : goal.returns-in-Original
unfolding bits_in
returns-in-Original c = (
  ap (λ (n : ℕ). 2 * n) c.size.ensures ∙ ap (λ (z : Shape). bits_in z (params_of c.args.frames.d)) (sym c.in-Original.is),
  omega (arith, c.size.ensures),
)
