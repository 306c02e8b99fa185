-- The shuffle of what is left, from the state that was reached, is the shuffle of the whole.
use mathlib.Core.Path.{◌≡◌}
use Prim.Native.Nat.{◌-◌, ◌*◌}
use lib.ListN.{length}
use Rattle.staircase.specs.Load.{state_after}
use Rattle.staircase.specs.Mixed.{shuffled}
use Rattle.kit_spread.proofs.mixing.shuffle_rows.Given as goal

abbrev pub invariant-loop-i : goal.invariant-loop-i
invariant-loop-i l =
    (shuffled l.s (l.i - 1) l.rows ≡ shuffled l.seed (length l.initial.rows - 1) l.initial.rows)
    × (state_after l.s (16 * (l.i - 1)) ≡ state_after l.seed (16 * (length l.initial.rows - 1)))
