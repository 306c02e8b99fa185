-- The loop's invariant: each bit is the sum of the terms before `b`. The measure is the number of terms left.
use mathlib.Core.Path.{◌≡◌}
use Prim.Native.Nat.{ℕ, ◌-◌, ◌≤◌}
use lib.ListN.{length}
use Rattle.staircase.specs.Lists.{sum_bits}
use Rattle.staircase.specs.Rules.{entries}
use Rattle.matrix.specs.Packed.{packed_bit}
use Rattle.kit_system.specs.Rows.{power_digit, row_term}
use Rattle.kit_system.proofs.Terms.{Sized}
use Rattle.kit_system.proofs.system_row.Given as goal

abbrev pub invariant-loop-b : goal.invariant-loop-b
invariant-loop-b l =
    Sized l.size (length l.part) l.e l.p × (l.b ≤ length l.part) × (length l.out ≡ length l.initial.out)
    × ((k : ℕ) → packed_bit l.out k ≡ sum_bits l.b (row_term (power_digit l.columns) (power_digit l.part) (length l.part) (entries l.n l.own) l.size l.p l.e k))

abbrev pub decreases-loop-b : goal.decreases-loop-b
decreases-loop-b l = length l.part - l.b
