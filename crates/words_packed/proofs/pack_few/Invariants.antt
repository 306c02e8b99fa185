-- The loop's invariant: each byte holds the bits of the rows from row `i` on, which are at most 8 - `i`, and `reads` is the width after a pass.
use mathlib.Core.Path.{◌≡◌}
use Prim.Native.Nat.{ℕ, ◌-◌, ◌^◌, ◌<◌}
use lib.ListN.{length, get_or}
use Rattle.words_packed.proofs.Packed.{Packs}
use Rattle.words_packed.proofs.pack_few.Given as goal

abbrev pub invariant-loop-i : goal.invariant-loop-i
invariant-loop-i l =
    (length l.packed ≡ length l.fn.packed) × (l.i < l.count → l.reads ≡ length l.fn.packed)
    × ((k : ℕ) → get_or l.packed k 0 < 2 ^ (8 - l.i)) × ((k : ℕ) → k < length l.fn.packed → Packs l.rows (length l.fn.packed) k l.i (get_or l.packed k 0))
