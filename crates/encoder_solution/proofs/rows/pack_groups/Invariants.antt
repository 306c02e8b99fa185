-- The loop's invariant: the bytes of the groups before `g` are packed.
use mathlib.Core.Path.{◌≡◌}
use Prim.Native.Nat.{ℕ, ◌+◌, ◌*◌, ◌/◌, ◌%◌, ◌≤◌, ◌<◌}
use lib.ListN.{length, get_or}
use Rattle.matrix.proofs.Bits.{bit}
use Rattle.encoder_solution.proofs.rows.pack_groups.Given as goal

abbrev pub invariant-loop-g : goal.invariant-loop-g
invariant-loop-g l =
    (l.g ≤ l.count) × (length l.packed ≡ l.count * l.p)
    × ((q : ℕ) → q < l.g * l.p → (i : ℕ) → i < 8 → bit (get_or l.packed q 0) i ≡ bit (get_or l.words (8 * (q % l.p) + i) 0) (q / l.p))
