use Rattle.text_frame_fill.proofs.Filling.{next_given, next_passes, all-filled, group_next}
use Rattle.text.specs.FrameText.{group_line}
use native.Mathlib.Omega.{arith}
use Prim.Native.Nat.{◌*◌}
use Rattle.text_frame_fill.proofs.fill_groups.Goals as goal

pub fill_group-q-requires : goal.fill_group-q-requires
fill_group-q-requires c =
    let a = c.args in
    let l = c.loop-i in
    let t = c.loop-i-test.true in
    (omega (arith, c.requires.0), next_given (group_line a.n) (2 * a.n) a.count l.i a.s.now l.q l.out _ l.invariant.0 l.invariant.1 t, next_passes (group_line a.n) (2 * a.n) a.count l.i a.s.now l.q l.out _ l.invariant.0 l.invariant.1 t c.requires.2)

pub loop-i-preserved : goal.loop-i-preserved
loop-i-preserved c =
    let a = c.args in
    let l = c.loop-i in
    group_next a.n a.count l.i a.s.now l.q l.out _ c.loop-i-test.true l.invariant.0 l.invariant.1 (omega (arith, c.requires.0)) _ _ c.fill_group-q.ensures

pub returns : goal.returns
returns c =
    let a = c.args in
    let l = c.loop-i in
    all-filled (group_line a.n) (2 * a.n) a.count l.i a.s.now l.q l.out _ l.invariant.0 l.invariant.1 (omega arith) (omega arith)
