use native.Mathlib.Omega.{arith}
use Rattle.bch_remainders.proofs.Powers.{added_more}
use Rattle.words_sums.proofs.rows.add_tiles.Goals as goal

pub loop-i-preserved : goal.loop-i-preserved
loop-i-preserved c =
    let l = c.loop-i in
    added_more c.args.acc.now l.acc _ l.i _ (omega arith) l.invariant c.tile_sum.ensures
