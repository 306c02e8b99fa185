-- The crossing word is one of the frame's where its line is.
use mathlib.Core.Path.{◌≡◌, ap, ◌∙◌}
use Prim.Native.Nat.{ℕ, ◌+◌, ◌*◌, ◌≤◌, ◌<◌}
use native.Mathlib.Omega.{arith}
use Rattle.staircase.proofs.Bounds.{stretch-end}
use Rattle.layout.specs.Layouts.{lines_in}
use Rattle.decoder_lines.proofs.Layouts.{size-high, bits-high}
use Rattle.decoder_lines.proofs.CrossingWord.{crossing-word, crossing-position, power_added, none_added}
use Rattle.decoder_lines.proofs.add_power.Goals as goal

pub place-w-requires : goal.place-w-requires
place-w-requires c =
    let a = c.args in
    let p = c.requires in
    let w = crossing-word p.0 a.a a.p p.2 p.3 p.5 c.crossing_word-c.ensures in
    let m = size-high p.0.frames in
    (omega (arith, c.if-c-line_count.true, c.line_count.ensures.1), omega (arith, m, c.size.ensures), omega (arith, m, w))

pub offset_bounds-positions-at : goal.offset_bounds-positions-at
offset_bounds-positions-at c =
    let a = c.args in
    let p = c.requires in
    let w = crossing-position p.0 a.a a.p p.2 p.3 p.5 c.crossing_word-c.ensures in
    omega (arith, w, bits-high p.0.frames)

pub bounds-positions-at : goal.bounds-positions-at
bounds-positions-at c =
    let a = c.args in
    let p = c.requires in
    let w = crossing-position p.0 a.a a.p p.2 p.3 p.5 c.crossing_word-c.ensures in
    omega (arith, w, p.1.long)

pub add-requires : goal.add-requires
add-requires c =
    let a = c.args in
    let p = c.requires in
    let h = c.crossing_word-c in
    let fr = a.line.frames in
    let w = crossing-word p.0 a.a a.p p.2 p.3 p.5 h.ensures in
    let n : h.result.line < lines_in fr.shape fr.blocks = omega (c.if-c-line_count.true, c.line_count.ensures.0, arith) in
    let e = stretch-end h.result.line (lines_in fr.shape fr.blocks) fr.d.size n in
    let v : c.place-w.result ≡ h.result.line * fr.d.size + h.result.word = c.place-w.ensures.0 ∙ ap (λ (z : ℕ). h.result.line * z + h.result.word) c.size.ensures in
    omega (arith, w, e, p.4, v)

pub returns-then-c-line_count : goal.returns-then-c-line_count
returns-then-c-line_count c =
    let a = c.args in
    let p = c.requires in
    let h = c.crossing_word-c in
    let fr = a.line.frames in
    let v : c.place-w.result ≡ h.result.line * fr.d.size + h.result.word = c.place-w.ensures.0 ∙ ap (λ (z : ℕ). h.result.line * z + h.result.word) c.size.ensures in
    let w = crossing-word p.0 a.a a.p p.2 p.3 p.5 h.ensures in
    let n : h.result.line < lines_in fr.shape fr.blocks = omega (c.if-c-line_count.true, c.line_count.ensures.0, arith) in
    let e = stretch-end h.result.line (lines_in fr.shape fr.blocks) fr.d.size n in
    power_added p.0 a.a a.p p.2 p.3 p.5 h.ensures p.1 c.place-w.result (omega (arith, w, e, v)) v c.add.ensures

pub returns-else-c-line_count : goal.returns-else-c-line_count
returns-else-c-line_count c =
    let a = c.args in
    let p = c.requires in
    let h = c.crossing_word-c in
    let fr = a.line.frames in
    let n : lines_in fr.shape fr.blocks ≤ h.result.line = omega (c.if-c-line_count.false, c.line_count.ensures.0, arith) in
    none_added p.0 a.a a.p p.2 p.3 p.5 h.ensures n
