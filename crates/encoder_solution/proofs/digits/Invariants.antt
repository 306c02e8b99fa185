-- The loop's invariant: the entries before `b` are filled.
use mathlib.Core.Path.{◌≡◌}
use Prim.Native.Nat.{◌/◌, ◌%◌, ◌^◌, ◌≤◌}
use lib.ListN.{length, get_or}
use Rattle.staircase.proofs.Fill.{filled}
use Rattle.encoder_solution.proofs.digits.Given as goal

abbrev pub invariant-loop-b : goal.invariant-loop-b
invariant-loop-b l =
    (l.b-end ≡ length l.columns) × (l.b ≤ length l.columns) × (length l.out ≡ length l.columns) × (length l.initial.out ≡ length l.columns)
    × (l.out ≡ filled (λ i. get_or l.columns i 0 / 2 ^ l.shift % 2) l.initial.out l.b)
