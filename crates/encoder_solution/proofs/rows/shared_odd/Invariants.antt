-- The loop's invariant: the parity of the masked bytes is the sum over the bits passed.
use mathlib.Core.Path.{◌≡◌}
use Prim.Native.Nat.{◌*◌, ◌%◌}
use lib.Count.{ones}
use lib.ListN.{length}
use Rattle.staircase.specs.Lists.{sum_bits}
use Rattle.matrix.specs.Packed.{packed_bit}
use Rattle.encoder_solution.proofs.rows.shared_odd.Given as goal

abbrev pub invariant-loop-x : goal.invariant-loop-x
invariant-loop-x l = ones l.acc % 2 ≡ sum_bits (8 * length l.yielded) (λ k. packed_bit l.a k * packed_bit l.b k)
