-- What is written stays within the lent line.
use native.Mathlib.Omega.{arith}
use Rattle.text_write.proofs.Room.{after-counts}
use Rattle.example.proofs.group_lines.Goals as goal

pub returns : goal.returns
returns c =
    let a = c.args in
    let first = c.group_line-first in
    let n = after-counts a.line.now 0 _ first.ensures.value first.ensures.out_after (omega arith) in
    after-counts _ _ _ c.group_line.ensures.value c.group_line.ensures.out_after n.0
