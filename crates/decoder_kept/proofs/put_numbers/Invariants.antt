-- The loop's invariant: the numbers before `from + a` are put.
use mathlib.Core.Path.{◌≡◌}
use Prim.Native.Nat.{ℕ, ◌+◌, ◌<◌, ◌≤◌}
use lib.ListN.{length, get_or}
use Rattle.decoder_kept.specs.Numbers.{kept_at}
use Rattle.decoder_kept.proofs.put_numbers.Given as goal

abbrev pub invariant-loop-a : goal.invariant-loop-a
invariant-loop-a l =
    (length l.numbers ≡ length l.initial.numbers)
    × ((k : ℕ) → k < l.a → kept_at l.numbers (l.from + k) ≡ get_or l.sums k 0) × ((w : ℕ) → w < l.from → kept_at l.numbers w ≡ kept_at l.initial.numbers w)
    × ((w : ℕ) → l.from + length l.sums ≤ w → kept_at l.numbers w ≡ kept_at l.initial.numbers w)
