-- The loop's invariant: the entries of the groups before `g` have the sums over their rows added, the others are as they were, and `reads` is the number
-- of columns as soon as a group is read. The measure is the number of groups left.
use mathlib.Core.Path.{◌≡◌}
use Prim.Native.Nat.{◌+◌, ◌-◌, ◌*◌, ◌/◌, ◌≤◌, ◌<◌}
use lib.ListN.{length, get_or}
use Rattle.bch.specs.Powers.{xor_sum}
use Rattle.words_sums.proofs.Tiles.{AddedBelow}
use Rattle.words_sums.proofs.rows.add_rows_in.Given as goal

abbrev pub invariant-loop-g : goal.invariant-loop-g
invariant-loop-g l =
    (l.g ≤ (length l.initial.acc + 7) / 8) × (length l.acc ≡ length l.initial.acc) × (length l.packed ≡ length l.initial.packed) × (length l.turned ≡ length l.initial.turned)
    × AddedBelow l.initial.acc (λ a. xor_sum (length l.part) (λ j. get_or l.block (a * length l.part + j) 0 * get_or l.part j 0)) (8 * l.g) l.acc
    × (0 < l.g → l.reads ≡ length l.part) × (l.reads ≤ length l.part)

abbrev pub decreases-loop-g : goal.decreases-loop-g
decreases-loop-g l = (length l.initial.acc + 7) / 8 - l.g
