-- The loop's invariant: the first c bytes of the row are written, and the rows x and y lie apart from it.
use mathlib.Core.Logic.{◌⊎◌}
use Prim.Native.Nat.{◌+◌, ◌-◌, ◌≤◌}
use lib.Bits.{bit_xor}
use lib.ListN.{length, get_or}
use Rattle.matrix_elimination.proofs.RowLoop.{Written}
use Rattle.matrix_elimination.proofs.rows.sum_row.Given as goal

abbrev pub invariant-loop-c : goal.invariant-loop-c
invariant-loop-c l =
    (l.c ≤ l.w) × (length l.initial.m ≤ 4456448) × (l.t + l.w ≤ length l.initial.m) × (l.p + l.w ≤ length l.initial.m) × (l.q + l.w ≤ length l.initial.m)
    × ((l.p + l.w ≤ l.t) ⊎ (l.t + l.w ≤ l.p)) × ((l.q + l.w ≤ l.t) ⊎ (l.t + l.w ≤ l.q)) × Written l.initial.m l.t l.c (λ j. bit_xor (get_or l.initial.m (l.p + j) 0) (get_or l.initial.m (l.q + j) 0)) l.m

abbrev pub decreases-loop-c : goal.decreases-loop-c
decreases-loop-c l = l.w - l.c
