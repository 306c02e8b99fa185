use mathlib.Core.Path.{◌≡◌, sym, ◌∙◌}
use Prim.Native.Nat.{◌<◌}
use native.Mathlib.Omega.{arith}
use Rattle.staircase.specs.Frame.{frame_of}
use Rattle.staircase.specs.Decoder.{run_each}
use Rattle.staircase.specs.Outcomes.{last_stuck}
use Rattle.design.specs.Sizes.{params_of}
use Rattle.decoder_lines.proofs.Layouts.{lines-few}
use Rattle.decoder_frame.specs.Stretch.{stretch_sites, stretch_words}
use Rattle.decoder_frame.proofs.Limit.{round_each, stuck-each, rounds_start, rounds-more, rounds-idle, rounds-end, last_start, last_more, last_idle}
use Rattle.decoder_frame.proofs.run_rounds.Goals as goal

pub loop-k-init : goal.loop-k-init
loop-k-init c =
    let p = c.requires in
    let a = c.args in
    let ws = stretch_words a.line a.links.now a.stretch.lines in
    let f = frame_of a.info.now a.red.now in (
      omega (arith, p.1, lines-few p.0.fits),
      omega arith,
      p.4,
      omega arith,
      rounds_start ws a.stretch.limit f,
      last_start ws a.stretch.limit 0 f p.2,
      λ y M. M,
    )

pub returns-then-more-eq0 : goal.returns-then-more-eq0
returns-then-more-eq0 c =
    let h : c.loop-k.k < c.args.stretch.limit = omega (arith, c.loop-k-test.true) in
    let a = c.args in
    let l = c.loop-k in
    let r = c.correct_lines-more.ensures in
    let s = params_of a.line.frames.d in
    let v = stretch_sites a.line a.links.now a.stretch.lines in
    let ws = stretch_words a.line a.links.now a.stretch.lines in
    let f = frame_of a.info.now a.red.now in
    let g = frame_of l.info l.red in
    let e = r.0 ∙ round_each s v g in
    let k = r.3 ∙ stuck-each s v g in (
      rounds-idle ws (run_each ws a.stretch.limit f) a.stretch.limit l.k l.flips g l.invariant.4 h _ e c.if-more-eq0.true,
      last_idle ws (last_stuck ws a.stretch.limit f) a.stretch.limit l.k l.stuck g l.invariant.5 h _ e _ k c.if-more-eq0.true,
      r.1,
      omega (arith, h, c.requires.3),
      omega (arith, r.2, l.invariant.0, l.invariant.3, h, c.requires.3),
      λ y M. r.5 y (l.invariant.6 y M),
    )

pub loop-k-preserved : goal.loop-k-preserved
loop-k-preserved c =
    let h : c.loop-k.k < c.args.stretch.limit = omega (arith, c.loop-k-test.true) in
    let a = c.args in
    let l = c.loop-k in
    let r = c.correct_lines-more.ensures in
    let s = params_of a.line.frames.d in
    let v = stretch_sites a.line a.links.now a.stretch.lines in
    let ws = stretch_words a.line a.links.now a.stretch.lines in
    let f = frame_of a.info.now a.red.now in
    let g = frame_of l.info l.red in
    let e = r.0 ∙ round_each s v g in
    let k = r.3 ∙ stuck-each s v g in (
      l.invariant.0,
      omega (arith, h),
      r.1,
      omega (arith, r.2, l.invariant.0, l.invariant.3),
      rounds-more ws (run_each ws a.stretch.limit f) a.stretch.limit l.k l.flips g l.invariant.4 h _ e c.if-more-eq0.false,
      last_more ws (last_stuck ws a.stretch.limit f) a.stretch.limit l.k l.stuck g l.invariant.5 h _ e _ k c.if-more-eq0.false,
      λ y M. r.5 y (l.invariant.6 y M),
    )

pub returns : goal.returns
returns c =
    let a = c.args in
    let l = c.loop-k in
    let ws = stretch_words a.line a.links.now a.stretch.lines in
    let f = frame_of a.info.now a.red.now in
    let e : l.k ≡ a.stretch.limit = omega (arith, c.loop-k-test.false, l.invariant.1) in (
      rounds-end ws (run_each ws a.stretch.limit f) a.stretch.limit l.k l.flips (frame_of l.info l.red) l.invariant.4 e,
      sym (l.invariant.5.1 e),
      l.invariant.2,
      c.requires.3,
      omega (arith, l.invariant.3, e, c.requires.3),
      l.invariant.6,
    )
