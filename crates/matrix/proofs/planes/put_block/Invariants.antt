-- The loop's invariant: the first `s` bytes have the bits of the block.
use mathlib.Core.Path.{◌≡◌}
use Prim.Native.Nat.{ℕ, ◌+◌, ◌*◌, ◌<◌}
use lib.ListN.{get_or}
use Rattle.matrix.proofs.Bits.{bit}
use Rattle.matrix.proofs.planes.put_block.Given as goal

-- v has the bits of byte s of q
abbrev pub ByteOf : ℕ → ℕ → ℕ → Type 0
ByteOf q s v = (r : ℕ) → r < 8 → bit v r ≡ bit q (8 * s + r)

abbrev pub invariant-loop-s : goal.invariant-loop-s
invariant-loop-s l = (x : ℕ) → x < l.s → ByteOf l.q x (get_or l.part x 0)
