-- The loop's invariant: each entry before `i` has the sum that its bytes name added, the others are as they were.
use Prim.Native.Nat.{◌+◌, ◌*◌}
use lib.ListN.{get_or}
use Rattle.bch.specs.Powers.{xor_sum}
use Rattle.bch_remainders.proofs.Powers.{Added}
use Rattle.words_sums.proofs.rows.add_tiles.Given as goal

abbrev pub invariant-loop-i : goal.invariant-loop-i
invariant-loop-i l = Added l.initial.acc (λ k. xor_sum l.count (λ c. get_or l.tables (256 * c + get_or l.turned (8 * c + k) 0) 0)) l.i l.acc
