use native.Mathlib.Omega.{arith}
use Prim.Native.Nat.{◌+◌, ◌-◌, ◌*◌, ◌<◌}
use lib.ListN.{drop}
use Rattle.text_lines.specs.Written.{next_group}
use Rattle.text_lines.proofs.Lines.{rest_end, group-room, group-written, lines_more, lines_none}
use Rattle.text_lines.proofs.whole.put_group_lines.Goals as goal

pub put_group-q-requires : goal.put_group-q-requires
put_group-q-requires c =
    let a = c.args in
    let l = c.loop-i in
    let some : 0 < a.count - l.i = omega arith in
    omega (arith, group-room a.n (l.i + 1) (a.count - l.i) (l.i * (2 * a.n)) a.red.now some l.invariant c.requires.red_in_bounds)

pub loop-i-preserved : goal.loop-i-preserved
loop-i-preserved c =
    let a = c.args in
    let l = c.loop-i in
    let some : 0 < a.count - l.i = omega arith in
    lines_more (next_group a.n) (2 * a.n) l.i a.count a.red.now
    (group-written a.n (l.i + 1) (a.count - l.i) (l.i * (2 * a.n)) a.red.now some l.invariant (c.put_group-q.ensures.value, c.put_group-q.ensures.out_after))

pub returns : goal.returns
returns c =
    let a = c.args in
    let l = c.loop-i in
    let t = rest_end (lines_none (next_group a.n) (2 * a.n) (l.i + 1) (a.count - l.i) (drop (l.i * (2 * a.n)) a.red.now) (omega arith)) l.invariant in
    record { value = t.0; out_after = t.1 }
