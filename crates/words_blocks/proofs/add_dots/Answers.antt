use mathlib.Core.Path.{◌∙◌}
use Prim.Native.Nat.{◌*◌}
use native.Mathlib.Omega.{arith}
use lib.ListN.{length}
use Rattle.bch_remainders.proofs.Powers.{added_more}
use Rattle.bch_remainders.proofs.Rows.{row_end, row-length}
use Rattle.words_blocks.proofs.Sums.{row-sum}
use Rattle.words_blocks.proofs.add_dots.Goals as goal

pub loop-a-preserved : goal.loop-a-preserved
loop-a-preserved c =
    let a = c.args in
    let w = length a.part.now in
    let l = c.loop-a in
    let e = row_end l.a (length a.acc.now) w (omega arith) in (
      added_more a.acc.now l.acc _ l.a _ (omega arith) l.invariant.0
          (c.dot-row.ensures.0 ∙ row-sum a.block.now a.part.now (l.a * w) (omega arith)),
      λ k h. c.dot-row.ensures.1 ∙ row-length a.block.now (l.a * w) w (omega arith),
      omega (arith, c.dot-row.ensures.1, row-length a.block.now (l.a * w) w (omega arith)),
    )
