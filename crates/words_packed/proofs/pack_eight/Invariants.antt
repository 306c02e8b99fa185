-- The loop's invariant: the first `k` bytes are packed, `reads` is `k`, and the bits that come next are below 2, so that no sum is too large.
use mathlib.Core.Path.{◌≡◌}
use Prim.Native.Nat.{ℕ, ◌<◌}
use lib.ListN.{length, get_or}
use Rattle.words_packed.proofs.Packed.{Packs, EightBits}
use Rattle.words_packed.proofs.pack_eight.Given as goal

abbrev pub invariant-loop-k : goal.invariant-loop-k
invariant-loop-k l =
    (l.reads ≡ l.k) × ((q : ℕ) → q < l.k → Packs l.rows (length l.initial.packed) q 0 (get_or l.packed q 0))
    × EightBits l.rows (length l.initial.packed) l.k
