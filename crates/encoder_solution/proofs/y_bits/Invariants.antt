-- The loop's invariant: the bits before `q` are filled.
use mathlib.Core.Path.{◌≡◌}
use Prim.Native.Nat.{◌/◌, ◌%◌, ◌^◌, ◌≤◌}
use lib.ListN.{length, get_or}
use Rattle.staircase.proofs.Fill.{filled}
use Rattle.encoder_solution.proofs.y_bits.Given as goal

abbrev pub invariant-loop-q : goal.invariant-loop-q
invariant-loop-q l =
    (l.q-end ≡ length l.words) × (l.q ≤ length l.words) × (length l.out ≡ length l.words) × (length l.initial.out ≡ length l.words) × (l.out ≡ filled (λ k. get_or l.words k 0 / 2 ^
    l.g % 2) l.initial.out l.q)
