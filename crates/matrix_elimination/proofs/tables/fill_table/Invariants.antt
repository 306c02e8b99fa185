-- The loop's invariant: a table of the sums of p rows, and the rows below n as they were. The measure is the number of rows left.
use mathlib.Core.Path.{◌≡◌}
use Prim.Native.Nat.{ℕ, ◌+◌, ◌-◌, ◌*◌, ◌^◌, ◌≤◌, ◌<◌}
use lib.ListN.{length}
use Rattle.matrix_elimination.specs.Steps.{bit_at, TableOf}
use Rattle.matrix_elimination.proofs.tables.fill_table.Given as goal

abbrev pub invariant-loop-p : goal.invariant-loop-p
invariant-loop-p l =
    (l.p ≤ l.h) × (l.s ≡ 2 ^ l.p) × (length l.m ≡ (l.n + 256) * l.w) × TableOf l.n l.m l.lo l.p × ((i j : ℕ) → i < l.n → j < 8 * l.w → bit_at l.m l.w i j ≡ bit_at l.initial.m l.w i j)

abbrev pub decreases-loop-p : goal.decreases-loop-p
decreases-loop-p l = l.h - l.p
