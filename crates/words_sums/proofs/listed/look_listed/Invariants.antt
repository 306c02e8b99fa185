-- The loop's invariant: the first `a` entries are added to, the others as they were.
use Prim.Native.Nat.{◌+◌}
use lib.ListN.{length, get_or}
use Rattle.bch_remainders.proofs.Powers.{Added}
use Rattle.words_sums.specs.Listed.{listed_byte}
use Rattle.words_sums.proofs.listed.look_listed.Given as goal

abbrev pub invariant-loop-a : goal.invariant-loop-a
invariant-loop-a l = Added l.initial.acc (λ k. get_or l.table (listed_byte l.list l.bits (l.p + k) (length l.initial.acc) l.count) 0) l.a l.acc
