-- The loop's invariant: the sums before `a` are added to, the others as they were.
use Prim.Native.Nat.{◌+◌, ◌*◌}
use lib.ListN.{get_or}
use Rattle.bch_remainders.proofs.Powers.{Added}
use Rattle.words_lines.specs.Words.{entry_at}
use Rattle.words_lines.proofs.add_listed_row.Given as goal

abbrev pub invariant-loop-a : goal.invariant-loop-a
invariant-loop-a l = Added l.initial.sums (λ k. get_or l.bits (entry_at l.list (l.p + k)) 0 * l.x) l.a l.sums
