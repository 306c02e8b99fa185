-- The loop's invariant: the first c bytes of the row are written, and row `from` lies apart from it.
use mathlib.Core.Logic.{◌⊎◌}
use Prim.Native.Nat.{◌+◌, ◌-◌, ◌≤◌}
use lib.Bits.{bit_xor}
use lib.ListN.{length, get_or}
use Rattle.matrix_elimination.proofs.RowLoop.{Written}
use Rattle.matrix_elimination.proofs.rows.add_row.Given as goal

abbrev pub invariant-loop-c : goal.invariant-loop-c
invariant-loop-c l =
    (l.c ≤ l.w) × (length l.initial.m ≤ 4456448) × (l.x + l.w ≤ length l.initial.m) × (l.y + l.w ≤ length l.initial.m) × ((l.y + l.w ≤ l.x) ⊎ (l.x + l.w ≤ l.y))
    × Written l.initial.m l.x l.c (λ j. bit_xor (get_or l.initial.m (l.x + j) 0) (get_or l.initial.m (l.y + j) 0)) l.m

abbrev pub decreases-loop-c : goal.decreases-loop-c
decreases-loop-c l = l.w - l.c
