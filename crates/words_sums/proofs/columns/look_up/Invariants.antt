-- The loop's invariant: the first `a` entries are added to, the others as they were.
use lib.ListN.{get_or}
use Rattle.bch_remainders.proofs.Powers.{Added}
use Rattle.words_sums.proofs.columns.look_up.Given as goal

abbrev pub invariant-loop-a : goal.invariant-loop-a
invariant-loop-a l = Added l.initial.acc (λ k. get_or l.table (get_or l.packed k 0) 0) l.a l.acc
