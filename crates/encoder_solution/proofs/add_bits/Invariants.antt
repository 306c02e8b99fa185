-- The loop's invariant: the bits before `q` are sums, the others as they were.
use mathlib.Core.Path.{◌≡◌}
use Prim.Native.Nat.{◌≤◌}
use lib.ListN.{length, get_or}
use Rattle.staircase.specs.Lists.{bit_sum}
use Rattle.staircase.proofs.Fill.{filled}
use Rattle.encoder_solution.proofs.add_bits.Given as goal

abbrev pub invariant-loop-q : goal.invariant-loop-q
invariant-loop-q l =
    (l.q-end ≡ length l.initial.out) × (l.q ≤ length l.initial.out) × (length l.out ≡ length l.initial.out) × (l.out ≡ filled (λ k. bit_sum (get_or l.initial.out k 0) (get_or l.bits k 0)) l.initial.out l.q)
