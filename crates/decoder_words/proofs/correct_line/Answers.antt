use mathlib.Core.Path.{◌≡◌, ap, ◌∙◌}
use Prim.Native.Nat.{ℕ, ◌+◌, ◌<◌, ◌≤◌}
use native.Mathlib.Omega.{arith}
use Rattle.staircase.specs.Lists.{tabulate}
use Rattle.staircase.specs.Frame.{frame_of}
use Rattle.staircase.specs.Decoder.{Progress, round}
use Rattle.staircase.specs.Outcomes.{stuck_among}
use Rattle.design.specs.Sizes.{params_of}
use Rattle.decoder_lines.specs.Layouts.{line_word}
use Rattle.decoder_lines.proofs.Layouts.{size-high, t-high}
use Rattle.decoder_flips.specs.Told.{outcome_of}
use Rattle.decoder_flips.proofs.Passes.{flips-told, pass-none, pass-more, pass-few, stuck-none, stuck-more}
use Rattle.decoder_words.proofs.correct_line.Goals as goal

pub loop-a-init : goal.loop-a-init
loop-a-init c =
    let p = c.requires in
    let a = c.args in
    let s = params_of a.line.frames.d in
    let W = line_word a.line a.links.now in
    let f = frame_of a.info.now a.red.now in
    (c.size-size.ensures, omega arith, pass-none s W f, p.1, stuck-none s W f, omega arith, λ g M. M)

pub overflow_add-flips : goal.overflow_add-flips
overflow_add-flips c =
    let p = c.requires in
    let a = c.args in
    let l = c.loop-a in
    let s = params_of a.line.frames.d in
    let W = line_word a.line a.links.now in
    let f = frame_of a.info.now a.red.now in
    let v = c.visit_word-told.ensures in
    let x : Progress = record { frame = frame_of l.info l.red; flips = l.flips } in
    let h : l.a < a.line.frames.d.size = omega (arith, c.loop-a-test.true, l.invariant.0) in
    let q = flips-told s x.frame (W l.a) (outcome_of c.visit_word-told.result) c.flips_of-flips.ensures v.1 in
    let e = pass-more s W f l.a x _ _ l.invariant.2 v.0 q in
    omega (arith, h, pass-few s W f (l.a + 1) _ (t-high p.0.fits.frames) e, size-high p.0.fits.frames)

pub overflow_add-stuck : goal.overflow_add-stuck
overflow_add-stuck c =
    omega (
      arith,
      c.loop-a-test.true,
      c.loop-a.invariant.0,
      c.loop-a.invariant.5,
      c.stuck_of-stuck.ensures.1,
      size-high c.requires.0.fits.frames,
    )

pub loop-a-preserved : goal.loop-a-preserved
loop-a-preserved c =
    let l = c.loop-a in
    let a = c.args in
    let h : l.a + 1 ≤ a.line.frames.d.size = omega (arith, c.loop-a-test.true, l.invariant.0) in
    let s = params_of a.line.frames.d in
    let W = line_word a.line a.links.now in
    let f = frame_of a.info.now a.red.now in
    let v = c.visit_word-told.ensures in
    let x : Progress = record { frame = frame_of l.info l.red; flips = l.flips } in
    let o = outcome_of c.visit_word-told.result in
    let q = flips-told s x.frame (W l.a) o c.flips_of-flips.ensures v.1 in
    let k = c.stuck_of-stuck.ensures in (
      l.invariant.0,
      h,
      pass-more s W f l.a x _ _ l.invariant.2 v.0 q,
      v.2,
      ap (λ (n : ℕ). l.stuck + n) k.0 ∙ stuck-more s W f l.a l.stuck x o l.invariant.4 l.invariant.2 v.1,
      omega (arith, l.invariant.5, k.1),
      λ g M. v.3 g (l.invariant.6 g M),
    )

pub returns : goal.returns
returns c =
    let p = c.requires in
    let a = c.args in
    let l = c.loop-a in
    let s = params_of a.line.frames.d in
    let W = line_word a.line a.links.now in
    let f = frame_of a.info.now a.red.now in
    let e : l.a ≡ a.line.frames.d.size = omega (arith, c.loop-a-test.false, l.invariant.0, l.invariant.1) in
    let few = pass-few s W f l.a (record { frame = frame_of l.info l.red; flips = l.flips }) (t-high p.0.fits.frames) l.invariant.2 in (
      l.invariant.2 ∙ ap (λ (n : ℕ). round s (tabulate n W) f) e,
      l.invariant.3,
      omega (arith, few, e, size-high p.0.fits.frames),
      l.invariant.4 ∙ ap (λ (n : ℕ). stuck_among s f (tabulate n W)) e,
      omega (arith, l.invariant.5, e, size-high p.0.fits.frames),
      l.invariant.6,
    )
