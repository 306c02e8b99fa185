use Prim.Native.Nat.{◌*◌}
use native.Mathlib.Omega.{arith}
use lib.ListN.{get_or}
use Rattle.bch_remainders.proofs.Powers.{added_more}
use Rattle.bch_remainders.proofs.add_bits.Goals as goal

pub loop-a-preserved : goal.loop-a-preserved
loop-a-preserved c =
    let a = c.args in
    let l = c.loop-a in
    added_more a.acc.now l.acc (λ k. get_or a.bits.now k 0 * a.x) l.a _ (omega arith) l.invariant c.masked.ensures
