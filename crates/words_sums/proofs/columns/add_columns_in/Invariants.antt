-- The loop's invariant: each entry has the sum over the first `g` groups of eight of its column added, where entries behind the end of `part` count as 0, and
-- `reads` is the number of rows in these groups. The measure is the number of groups left.
use mathlib.Core.Path.{◌≡◌}
use Prim.Native.Nat.{ℕ, ◌+◌, ◌-◌, ◌*◌, ◌/◌, ◌≤◌, ◌<◌, min}
use lib.ListN.{length, get_or}
use Rattle.bch.specs.Polynomial.{◌⊕◌}
use Rattle.bch.specs.Powers.{xor_sum}
use Rattle.words_sums.proofs.columns.add_columns_in.Given as goal

abbrev pub invariant-loop-g : goal.invariant-loop-g
invariant-loop-g l =
    (l.g ≤ (length l.part + 7) / 8) × (l.reads ≡ min (8 * l.g) (length l.part)) × (length l.acc ≡ length l.initial.acc) × (length l.packed ≡ length l.initial.acc)
    × ((a : ℕ) → a < length l.initial.acc
    → get_or l.acc a 0 ≡ get_or l.initial.acc a 0 ⊕ xor_sum l.g (λ j. xor_sum 8 (λ i. get_or l.block ((8 * j + i) * length l.initial.acc + a) 0 * get_or l.part (8 * j + i) 0)))

abbrev pub decreases-loop-g : goal.decreases-loop-g
decreases-loop-g l = (length l.part + 7) / 8 - l.g
