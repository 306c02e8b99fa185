-- The loop's invariant: the first `a` entries are added to, the others as they were.
use Prim.Native.Nat.{◌*◌}
use lib.ListN.{get_or}
use Rattle.bch_remainders.proofs.Powers.{Added}
use Rattle.bch_remainders.proofs.add_bits.Given as goal

abbrev pub invariant-loop-a : goal.invariant-loop-a
invariant-loop-a l = Added l.initial.acc (λ k. get_or l.bits k 0 * l.x) l.a l.acc
