-- The loop's invariant: the table has the solutions with exponents below `e`. The measure is the number of exponents left.
use mathlib.Core.Path.{◌≡◌}
use Prim.Native.Nat.{◌-◌, ◌^◌, ◌≤◌}
use lib.ListN.{length}
use Rattle.bch_field.proofs.Solved.{Solved}
use Rattle.bch_field.proofs.logarithms.fill_solutions.Given as goal

abbrev pub invariant-loop-e : goal.invariant-loop-e
invariant-loop-e l =
    (l.e-end ≡ length l.powers) × (length l.powers ≡ 2 ^ l.m - 1) × (2 ^ l.m ≤ 1024) × (1 ≤ l.e) × (l.e ≤ length l.powers) × Solved l.m l.k l.e l.table

abbrev pub decreases-loop-e : goal.decreases-loop-e
decreases-loop-e l = length l.powers - l.e
