-- The loop's invariant: the rows before `a` are filled.
use mathlib.Core.Path.{◌≡◌}
use Prim.Native.Nat.{◌*◌, ◌/◌, ◌%◌, ◌≤◌}
use lib.ListN.{length, get_or}
use Rattle.staircase.proofs.Fill.{filled}
use Rattle.encoder_solution.specs.Bits.{remainder_digit}
use Rattle.encoder_solution.proofs.p_bits.Given as goal

abbrev pub invariant-loop-a : goal.invariant-loop-a
invariant-loop-a l =
    (l.a ≤ l.r) × (length l.out ≡ l.r * l.size) × (length l.initial.out ≡ l.r * l.size) × (l.out ≡ filled (λ q. remainder_digit (get_or l.columns (q % l.size) 0) l.r (q / l.size)) l.initial.out (l.a * l.size))
