use native.Mathlib.Omega.{arith}
use mathlib.Core.Path.{◌≡◌, ◌∙◌, subst}
use Prim.Native.Nat.{ℕ}
use Rattle.staircase.specs.Frame.{frame_of}
use Rattle.layout.specs.Layouts.{lines_in}
use Rattle.decoder_frame.specs.Filled.{PassFilled}
use Rattle.decoder_frame.proofs.Filling.{pass_next}
use Rattle.decoder_frame.proofs.fill_pass.Goals as goal

pub loop-k-preserved : goal.loop-k-preserved
loop-k-preserved c =
    let a = c.args in
    let l = c.loop-k in
    let more = c.fill_line in (
      l.invariant.0,
      omega (arith, c.loop-k-test.true),
      more.ensures.0 ∙ l.invariant.2,
      pass_next a.pass a.own.now a.parity.now (frame_of a.info.now a.red.now) l.k a.numbers.now l.numbers
          more.new.numbers l.invariant.3 more.ensures.1,
    )

pub returns : goal.returns
returns c =
    let a = c.args in
    let g = a.pass.frames in
    let l = c.loop-k in
    let e : l.k ≡ lines_in g.shape g.blocks = omega (arith, c.loop-k-test.false, l.invariant.0, l.invariant.1) in
    (l.invariant.2, subst (λ (n : ℕ). PassFilled a.pass a.own.now a.parity.now (frame_of a.info.now a.red.now) n a.numbers.now l.numbers) e l.invariant.3)
