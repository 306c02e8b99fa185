use Prim.Native.Nat.{◌+◌}
use native.Mathlib.Omega.{arith}
use lib.ListN.{length, get_or}
use Rattle.bch_remainders.proofs.Powers.{added_more}
use Rattle.words_sums.specs.Listed.{listed_byte}
use Rattle.words_sums.proofs.listed.look_listed.Goals as goal

pub loop-a-preserved : goal.loop-a-preserved
loop-a-preserved c =
    let l = c.loop-a in
    let a = c.args in
    added_more a.acc.now l.acc (λ k. get_or a.table.now (listed_byte a.list.now a.bits.now (a.p + k) (length a.acc.now) a.count) 0)
    l.a _ (omega arith) l.invariant (rw c.bits_of.ensures at c.entry.ensures)
