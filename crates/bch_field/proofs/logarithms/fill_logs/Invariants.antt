-- The loop's invariant: the table has the logarithms of the first `j` powers. The measure is the number of powers left.
use mathlib.Core.Path.{◌≡◌}
use Prim.Native.Nat.{◌-◌, ◌^◌, ◌≤◌}
use lib.ListN.{length}
use Rattle.bch_field.proofs.Solved.{Logged}
use Rattle.bch_field.proofs.logarithms.fill_logs.Given as goal

abbrev pub invariant-loop-j : goal.invariant-loop-j
invariant-loop-j l =
    (l.j-end ≡ length l.powers) × (length l.powers ≡ 2 ^ l.m - 1) × (2 ^ l.m ≤ 1024) × (l.j ≤ length l.powers) × Logged l.m l.j l.logs

abbrev pub decreases-loop-j : goal.decreases-loop-j
decreases-loop-j l = length l.powers - l.j
