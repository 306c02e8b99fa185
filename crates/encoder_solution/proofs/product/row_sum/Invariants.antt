-- The loop's invariant: `acc` is the sum over the first `j` bytes.
use mathlib.Core.Path.{◌≡◌}
use Prim.Native.Nat.{◌+◌, ◌*◌, ◌≤◌}
use lib.ListN.{length, get_or}
use Rattle.bch.specs.Powers.{xor_sum}
use Rattle.encoder_solution.proofs.product.row_sum.Given as goal

abbrev pub invariant-loop-j : goal.invariant-loop-j
invariant-loop-j l = (l.j-end ≡ length l.row) × (l.j ≤ length l.row) × (l.acc ≡ xor_sum l.j (λ k. get_or l.tables (256 * k + get_or l.row k 0) 0))
