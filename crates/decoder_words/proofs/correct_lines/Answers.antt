use mathlib.Core.Path.{◌≡◌, sym, ap, ◌∙◌, subst}
use mathlib.Core.List.{List}
use Prim.Native.Nat.{ℕ, ◌+◌, ◌<◌}
use native.Mathlib.Omega.{arith}
use Rattle.staircase.specs.Lists.{tabulate, concat}
use Rattle.staircase.specs.Frame.{Site, frame_of}
use Rattle.staircase.specs.Decoder.{Progress, round}
use Rattle.staircase.specs.Outcomes.{stuck_among}
use Rattle.design.specs.Sizes.{params_of}
use Rattle.layout.specs.declared.Line.{Line}
use Rattle.layout.specs.Layouts.{lines_in}
use Rattle.decoder_lines.specs.Layouts.{layout_of, line_word}
use Rattle.decoder_lines.proofs.Layouts.{lines-few}
use Rattle.decoder_words.specs.Ready.{LineReady, FrameKept, LineMarks}
use Rattle.decoder_flips.proofs.Passes.{lines_none, lines_next, stuck-lines-none, stuck-lines_next}
use Rattle.decoder_words.proofs.Word.{ready_at}
use Rattle.decoder_words.proofs.correct_lines.Goals as goal

pub loop-i-init : goal.loop-i-init
loop-i-init c =
    let p = c.requires in
    let a = c.args in
    let s = params_of a.line.frames.d in
    let W : ℕ → List (List Site) = λ j. tabulate a.line.frames.d.size ((layout_of a.line.frames a.links.now).sites (a.line.k + j)) in
    let f = frame_of a.info.now a.red.now in
    (omega arith, lines_none s W f, p.2, omega arith, stuck-lines-none s W f, omega arith, λ g M. M)

pub overflow_add-line : goal.overflow_add-line
overflow_add-line c = omega (arith, c.loop-i-test.true, c.requires.1, lines-few c.requires.0.fits)

pub correct_line-more-requires : goal.correct_line-more-requires
correct_line-more-requires c =
    let p = c.requires in
    let a = c.args in
    let l = c.loop-i in
    let k : ℕ = a.line.k + l.i in
    let hk : k < lines_in a.line.frames.shape a.line.frames.blocks = omega (arith, c.loop-i-test.true, p.1) in
    subst (λ (z : Line). LineReady z a.links.now a.tables.now a.field.now × FrameKept z.frames a.links.now l.info l.red l.kept)
    (sym c.line_at-here.ensures) (ready_at k p.0 hk, l.invariant.2)

pub overflow_add-flips : goal.overflow_add-flips
overflow_add-flips c =
    omega (
      arith,
      c.loop-i-test.true,
      c.loop-i.invariant.3,
      c.correct_line-more.ensures.2,
      c.requires.1,
      lines-few c.requires.0.fits,
    )

pub overflow_add-stuck : goal.overflow_add-stuck
overflow_add-stuck c =
    omega (
      arith,
      c.loop-i-test.true,
      c.loop-i.invariant.5,
      c.correct_line-more.ensures.4,
      c.requires.1,
      lines-few c.requires.0.fits,
    )

pub loop-i-preserved : goal.loop-i-preserved
loop-i-preserved c =
    let p = c.requires in
    let a = c.args in
    let l = c.loop-i in
    let s = params_of a.line.frames.d in
    let W : ℕ → List (List Site) = λ j. tabulate a.line.frames.d.size ((layout_of a.line.frames a.links.now).sites (a.line.k + j)) in
    let f = frame_of a.info.now a.red.now in
    let r = c.correct_line-more.result in
    let v = c.correct_line-more.ensures in
    let x : Progress = record { frame = frame_of l.info l.red; flips = l.flips } in
    let m = c.correct_line-more.new in
    let here = subst (λ (z : Line). (record { frame = frame_of m.info m.red; flips = r.flips }
    ≡ round (params_of z.frames.d) (tabulate z.frames.d.size (line_word z a.links.now)) (frame_of l.info l.red))
    × FrameKept z.frames a.links.now m.info m.red m.kept
    × (r.stuck ≡ stuck_among (params_of z.frames.d) (frame_of l.info l.red) (tabulate z.frames.d.size (line_word z a.links.now)))
    × LineMarks z.frames l.info l.red l.kept m.info m.red m.kept)
    c.line_at-here.ensures (v.0, v.1, v.3, v.5) in (
      omega (arith, c.loop-i-test.true),
      lines_next s W f l.i x _ l.invariant.1 here.0,
      here.1,
      omega (arith, l.invariant.3, v.2),
      stuck-lines_next s W f l.i l.stuck r.stuck x l.invariant.4 l.invariant.1 here.2,
      omega (arith, l.invariant.5, v.4),
      λ g M. here.3 g (l.invariant.6 g M),
    )

pub returns : goal.returns
returns c =
    let a = c.args in
    let l = c.loop-i in
    let s = params_of a.line.frames.d in
    let W : ℕ → List (List Site) = λ j. tabulate a.line.frames.d.size ((layout_of a.line.frames a.links.now).sites (a.line.k + j)) in
    let f = frame_of a.info.now a.red.now in
    let e : l.i ≡ a.count = omega (arith, c.loop-i-test.false, l.invariant.0) in (
      l.invariant.1 ∙ ap (λ (n : ℕ). round s (concat n W) f) e,
      l.invariant.2,
      omega (arith, l.invariant.3, e),
      l.invariant.4 ∙ ap (λ (n : ℕ). stuck_among s f (concat n W)) e,
      omega (arith, l.invariant.5, e),
      l.invariant.6,
    )
