-- The loop's invariant: the first `c` tiles of `turned` are those of `packed` with rows for columns. The measure is the number of tiles left.
use mathlib.Core.Path.{◌≡◌}
use mathlib.Core.List.{List}
use Prim.Native.Nat.{ℕ, ◌+◌, ◌-◌, ◌*◌, ◌≤◌, ◌<◌}
use lib.ListN.{length, get_or}
use Rattle.matrix.proofs.Bits.{bit}
use Rattle.matrix.proofs.tiles.turn.Given as goal

-- tile q of t is that of p with rows for columns
abbrev pub Turned : List ℕ → List ℕ → ℕ → Type 0
Turned p t q = (i s : ℕ) → i < 8 → s < 8 → bit (get_or t (8 * q + i) 0) s ≡ bit (get_or p (8 * q + s) 0) i

abbrev pub invariant-loop-c : goal.invariant-loop-c
invariant-loop-c l = (l.c ≤ l.count) × (length l.turned ≡ length l.initial.turned) × ((q : ℕ) → q < l.c → Turned l.packed l.turned q)

abbrev pub decreases-loop-c : goal.decreases-loop-c
decreases-loop-c l = l.count - l.c
