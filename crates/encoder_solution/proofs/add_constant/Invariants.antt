-- The loop's invariant: the words before `q` have the bit added, the others are as they were.
use mathlib.Core.Path.{◌≡◌}
use mathlib.Core.Bool.{cond}
use Prim.Native.Nat.{ℕ, ◌≤◌, ◌<◌}
use lib.Dec.{eqb}
use lib.ListN.{length, get_or}
use Rattle.staircase.specs.Lists.{bit_sum}
use Rattle.matrix.proofs.Bits.{bit}
use Rattle.encoder_solution.specs.Bits.{place_constant}
use Rattle.encoder_solution.proofs.add_constant.Given as goal

abbrev pub invariant-loop-q : goal.invariant-loop-q
invariant-loop-q l =
    (l.q-end ≡ length l.initial.words) × (l.q ≤ length l.initial.words) × (length l.words ≡ length l.initial.words)
    × ((k : ℕ) → (k < l.q → (j : ℕ) → bit (get_or l.words k 0) j ≡ bit_sum (bit (get_or l.initial.words k 0) j) (cond (eqb l.g j) (place_constant l.bits l.preimages (length l.initial.words) k) 0))
    × (l.q ≤ k → get_or l.words k 0 ≡ get_or l.initial.words k 0))
