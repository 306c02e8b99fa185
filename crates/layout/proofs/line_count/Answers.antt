-- A case for each kind.
use mathlib.Core.Path.{◌≡◌, sym, ap, ◌∙◌}
use Prim.Native.Nat.{◌+◌, ◌*◌, ◌%◌}
use native.Mathlib.Omega.{arith}
use Rattle.staircase.specs.Frame.{groups}
use Rattle.layout.specs.declared.Shape.{Shape}
use Rattle.layout.specs.Layouts.{lines_in}
use Rattle.layout.proofs.line_count.Goals as goal

pub returns-in-FeedForward : goal.returns-in-FeedForward
unfolding lines_in
returns-in-FeedForward c =
    let L = c.args.frames.blocks in
    let e : L + L % 2 ≡ 2 * groups L = omega arith in
    (e ∙ ap (λ (z : Shape). lines_in z L) (sym c.in-FeedForward.is), omega (arith, c.requires))

pub returns-in-Original : goal.returns-in-Original
unfolding lines_in
returns-in-Original c = (ap (λ (z : Shape). lines_in z c.args.frames.blocks) (sym c.in-Original.is), omega (arith, c.requires))
