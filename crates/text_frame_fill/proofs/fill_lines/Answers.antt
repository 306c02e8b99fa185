use Rattle.text_frame_fill.proofs.Filling.{all-filled, row_passes, row_filled}
use Rattle.text_formats.specs.Items.{bits_line}
use native.Mathlib.Omega.{arith}
use Rattle.text_frame_fill.proofs.fill_lines.Goals as goal

pub fill_line-q-requires : goal.fill_line-q-requires
fill_line-q-requires c =
    let a = c.args in
    let l = c.loop-i in
    (omega arith, row_passes a.area a.n l.i a.s.now l.q l.out _ c.loop-i-test.true l.invariant.0 l.invariant.1 c.requires.2)

pub loop-i-preserved : goal.loop-i-preserved
loop-i-preserved c =
    let a = c.args in
    let l = c.loop-i in
    row_filled a.area a.n l.i a.s.now l.q l.out _ c.loop-i-test.true l.invariant.0 l.invariant.1 (omega (arith, c.requires.0)) _ _ c.fill_line-q.ensures

pub returns : goal.returns
returns c =
    let a = c.args in
    let l = c.loop-i in
    all-filled (bits_line a.area) a.area a.n l.i a.s.now l.q l.out _ l.invariant.0 l.invariant.1 (omega arith) (omega arith)
