use mathlib.Core.Path.{◌≡◌, ap, ◌∙◌, subst, subst⁻¹}
use mathlib.Core.List.{List}
use Prim.Native.Nat.{ℕ, ◌+◌, ◌-◌, ◌*◌, ◌≤◌}
use native.Mathlib.Numerals.{add-one}
use native.Mathlib.Omega.{arith}
use Rattle.staircase.specs.Design.{most-rounds}
use Rattle.staircase.specs.Frame.{Word, frame_of, groups}
use Rattle.staircase.specs.Decoder.{Decoded, run_each}
use Rattle.staircase.specs.Outcomes.{last_stuck}
use Rattle.staircase.specs.Window.{slide}
use Rattle.design.specs.Sizes.{params_of}
use Rattle.layout.specs.declared.Shape.TheVariants.{FeedForward}
use Rattle.layout.specs.declared.Frames.{Frames}
use Rattle.layout.specs.declared.Line.{Line}
use Rattle.layout.specs.Layouts.{lines_in}
use Rattle.decoder_frame.specs.declared.Stretch.{Stretch}
use Rattle.decoder_lines.specs.Links.{lists_in}
use Rattle.decoder_words.specs.Ready.{FramesReady, FrameKept, LineMarks}
use Rattle.decoder_frame.specs.Stretch.{stretch_words, read_window}
use Rattle.decoder_frame.proofs.Positions.{window-at, slide_none, slide_next, stuck_next}
use Rattle.decoder_frame.proofs.Feed.{feed_lines}
use Rattle.decoder_frame.proofs.run_window.Goals as goal

pub loop-p-init : goal.loop-p-init
loop-p-init c =
    let k = c.position_count-count.ensures in
    let p = c.requires in
    let a = c.args in (
      omega (arith, k.0),
      k.1,
      omega arith,
      p.2,
      omega arith,
      omega arith,
      slide_none (read_window (params_of a.frames.d) (lists_in a.frames.d a.links.now) a.frames.blocks a.window.groups) a.window.limit
          (frame_of a.info.now a.red.now),
      λ q e. absurd (omega (arith, e)),
      λ y M. M,
    )

pub run_rounds-made-requires : goal.run_rounds-made-requires
run_rounds-made-requires c =
    let p = c.requires in
    let a = c.args in
    let l = c.loop-p in
    let L = a.frames.blocks in
    let two = feed_lines L in
    let fit : 2 * l.p + 2 * a.window.groups ≤ lines_in FeedForward L = omega (arith, c.loop-p-test.true, l.invariant.0, p.1.all-groups, two) in
    let y : Stretch = record { lines = 2 * a.window.groups; limit = a.window.limit } in
    let P : Line → Stretch → Type 0 = λ z y. FramesReady z.frames a.links.now a.tables.now a.field.now
    × (z.k + y.lines ≤ lines_in z.frames.shape z.frames.blocks)
    × (1 ≤ y.limit) × (y.limit ≤ most-rounds) × FrameKept z.frames a.links.now l.info l.red l.kept in
    let at = c.line_at-here.ensures ∙ ap (λ (f : Frames). record { frames = f; k = 2 * l.p }) p.3 in
    subst⁻¹ (P c.line_at-here.result) c.stretch_of.ensures
    (subst⁻¹ (λ (z : Line). P z y) at
    (p.0, fit, p.1.some-rounds, p.1.few-rounds, l.invariant.3))

pub loop-p-preserved : goal.loop-p-preserved
loop-p-preserved c =
    let p = c.requires in
    let a = c.args in
    let l = c.loop-p in
    let L = a.links.now in
    let g = a.window.groups in
    let K = a.window.limit in
    let W : ℕ → List Word = read_window (params_of a.frames.d) (lists_in a.frames.d L) a.frames.blocks g in
    let f = frame_of a.info.now a.red.now in
    let r = c.run_rounds-made.result in
    let v = c.run_rounds-made.ensures in
    let m = c.run_rounds-made.new in
    let x : Decoded = record { frame = frame_of l.info l.red; rounds = l.rounds; flips = l.flips } in
    let Q : Line → Stretch → Type 0 = λ z y. (record { frame = frame_of m.info m.red; rounds = r.rounds; flips = r.flips }
    ≡ run_each (stretch_words z L y.lines) y.limit (frame_of l.info l.red))
    × (r.stuck ≡ last_stuck (stretch_words z L y.lines) y.limit (frame_of l.info l.red))
    × FrameKept z.frames L m.info m.red m.kept
    × LineMarks z.frames l.info l.red l.kept m.info m.red m.kept in
    let y : Stretch = record { lines = 2 * g; limit = K } in
    let at = c.line_at-here.ensures ∙ ap (λ (f : Frames). record { frames = f; k = 2 * l.p }) p.3 in
    let here = subst (λ (z : Line). Q z y) at (subst (Q c.line_at-here.result) c.stretch_of.ensures (v.0, v.1, v.2, v.5)) in
    let same = window-at a.frames.d a.frames.blocks L l.p g p.1.all-groups in (
      l.invariant.0,
      l.invariant.1,
      omega (arith, c.loop-p-test.true),
      here.2,
      omega (arith, l.invariant.4, v.3),
      omega (arith, l.invariant.5, v.4),
      slide_next W K f l.p x l.invariant.6 _ (here.0 ∙ ap (λ (ws : List Word). run_each ws K (frame_of l.info l.red)) same),
      stuck_next W K f l.p x l.invariant.6 r.stuck (here.1 ∙ ap (λ (ws : List Word). last_stuck ws K (frame_of l.info l.red)) same),
      λ y M. here.3 y (l.invariant.8 y M),
    )

pub returns : goal.returns
returns c =
    let a = c.args in
    let l = c.loop-p in
    let W : ℕ → List Word = read_window (params_of a.frames.d) (lists_in a.frames.d a.links.now) a.frames.blocks a.window.groups in
    let f = frame_of a.info.now a.red.now in
    let last = groups a.frames.blocks - a.window.groups in
    let e : l.p ≡ last + 1 = omega (arith, c.loop-p-test.false, l.invariant.0, l.invariant.2) in
    (l.invariant.6 ∙ ap (λ (n : ℕ). slide W n a.window.limit f) (e ∙ add-one last), l.invariant.7 last e, l.invariant.3, l.invariant.8)
