-- The loop's invariant: the bytes before `b` are packed.
use mathlib.Core.Path.{◌≡◌}
use Prim.Native.Nat.{ℕ, ◌+◌, ◌*◌, ◌≤◌, ◌<◌}
use lib.ListN.{length, get_or}
use Rattle.matrix.proofs.Bits.{bit}
use Rattle.encoder_solution.proofs.rows.pack_group.Given as goal

abbrev pub invariant-loop-b : goal.invariant-loop-b
invariant-loop-b l =
    (l.b-end ≡ length l.initial.out) × (l.b ≤ length l.initial.out) × (length l.out ≡ length l.initial.out)
    × ((q : ℕ) → q < l.b → (i : ℕ) → i < 8 → bit (get_or l.out q 0) i ≡ bit (get_or l.words (8 * q + i) 0) l.g)
