-- The loop's invariant: each entry before `a` has the sum over its row added.
use mathlib.Core.Path.{◌≡◌}
use Prim.Native.Nat.{ℕ, ◌+◌, ◌*◌, ◌≤◌, ◌<◌}
use lib.ListN.{length, get_or}
use Rattle.bch.specs.Powers.{xor_sum}
use Rattle.bch_remainders.proofs.Powers.{Added}
use Rattle.words_blocks.proofs.add_dots.Given as goal

abbrev pub invariant-loop-a : goal.invariant-loop-a
invariant-loop-a l =
    Added l.initial.acc (λ k. xor_sum (length l.part) (λ j. get_or l.block (k * length l.part + j) 0 * get_or l.part j 0)) l.a l.acc
    × ((k : ℕ) → k < l.a → l.reads ≡ length l.part) × (l.reads ≤ length l.part)
