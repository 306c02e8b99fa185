use native.Mathlib.Omega.{arith}
use lib.ListN.{get_or}
use Rattle.bch_remainders.proofs.Powers.{added_more}
use Rattle.words_sums.proofs.columns.look_up.Goals as goal

pub loop-a-preserved : goal.loop-a-preserved
loop-a-preserved c =
    let a = c.args in
    let l = c.loop-a in
    added_more a.acc.now l.acc (λ k. get_or a.table.now (get_or a.packed.now k 0) 0) l.a _ (omega arith) l.invariant c.entry.ensures
