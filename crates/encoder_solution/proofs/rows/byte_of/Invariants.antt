-- The loop's invariant: the bits of the words before `i` are in `v`, whose other bits are 0.
use mathlib.Core.Path.{◌≡◌}
use Prim.Native.Nat.{◌≤◌}
use lib.ListN.{get_or}
use Rattle.matrix.proofs.Bits.{bit}
use Rattle.encoder_solution.proofs.Gathered.{Gathered}
use Rattle.encoder_solution.proofs.rows.byte_of.Given as goal

abbrev pub invariant-loop-i : goal.invariant-loop-i
invariant-loop-i l = (l.i-end ≡ 8) × (l.i ≤ 8) × Gathered (λ k. bit (get_or l.words k 0) l.g) l.v l.i
