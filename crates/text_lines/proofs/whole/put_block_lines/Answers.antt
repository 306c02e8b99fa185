use native.Mathlib.Omega.{arith}
use Prim.Native.Nat.{◌+◌, ◌-◌, ◌*◌, ◌<◌}
use lib.ListN.{drop}
use Rattle.text_lines.specs.Written.{next_block}
use Rattle.text_lines.proofs.Lines.{rest_end, block_room, block_written, lines_more, lines_none}
use Rattle.text_lines.proofs.whole.put_block_lines.Goals as goal

pub put_block-q-requires : goal.put_block-q-requires
put_block-q-requires c =
    let a = c.args in
    let l = c.loop-i in
    let some : 0 < a.count - l.i = omega arith in
    block_room a.area (l.i + 1) (a.count - l.i) (l.i * a.area) a.info.now some l.invariant c.requires.info_in_bounds

pub loop-i-preserved : goal.loop-i-preserved
loop-i-preserved c =
    let a = c.args in
    let l = c.loop-i in
    let some : 0 < a.count - l.i = omega arith in
    lines_more (next_block a.area) a.area l.i a.count a.info.now
    (block_written a.area (l.i + 1) (a.count - l.i) (l.i * a.area) a.info.now some l.invariant (c.put_block-q.ensures.value, c.put_block-q.ensures.out_after))

pub returns : goal.returns
returns c =
    let a = c.args in
    let l = c.loop-i in
    let t = rest_end (lines_none (next_block a.area) a.area (l.i + 1) (a.count - l.i) (drop (l.i * a.area) a.info.now) (omega arith)) l.invariant in
    record { value = t.0; out_after = t.1 }
