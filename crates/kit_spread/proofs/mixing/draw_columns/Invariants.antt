-- After c turns the rows of c column words are drawn, the rest of the table is as it was.
use mathlib.Core.Path.{◌≡◌}
use Prim.Native.Nat.{◌-◌, ◌*◌}
use Rattle.staircase.specs.Load.{state_after}
use Rattle.staircase.proofs.Fill.{stretches}
use Rattle.kit_spread.proofs.MixedEntries.{rows_by}
use Rattle.kit_spread.proofs.mixing.draw_columns.Given as goal

abbrev pub invariant-loop-c : goal.invariant-loop-c
invariant-loop-c l = (l.s ≡ state_after l.seed (16 * ((l.r - 1) * l.c))) × (l.rows ≡ stretches (rows_by l.r l.seed) l.initial.rows l.r l.c)
