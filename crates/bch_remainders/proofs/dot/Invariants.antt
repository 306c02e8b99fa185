-- The loop's invariant: `acc` is the sum over the first `j` bits, and `reads` is `j`.
use mathlib.Core.Path.{◌≡◌}
use Prim.Native.Nat.{◌*◌}
use lib.ListN.{get_or}
use Rattle.bch.specs.Powers.{xor_sum}
use Rattle.bch_remainders.proofs.dot.Given as goal

abbrev pub invariant-loop-j : goal.invariant-loop-j
invariant-loop-j l = (l.reads ≡ l.j) × (l.acc ≡ xor_sum l.j (λ k. get_or l.bits k 0 * get_or l.part k 0))
