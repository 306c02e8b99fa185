-- The loop's invariant: the bits of the groups before `g` are in `x`, whose other bits are 0.
use mathlib.Core.List.{List}
use Prim.Native.Nat.{ℕ, ◌*◌, ◌≤◌}
use lib.ListN.{length, drop}
use Rattle.staircase.specs.Lists.{sum_bits}
use Rattle.matrix.specs.Packed.{packed_bit}
use Rattle.encoder_solution.proofs.Gathered.{Gathered}
use Rattle.encoder_solution.proofs.rows.row_word.Given as goal

-- entry g of what the row and the constants make
abbrev pub entry : List ℕ → List ℕ → ℕ → ℕ → ℕ
entry row packed p g = sum_bits (8 * length row) (λ k. packed_bit row k * packed_bit (drop (g * p) packed) k)

abbrev pub invariant-loop-g : goal.invariant-loop-g
invariant-loop-g l = (l.g ≤ l.count) × Gathered (entry l.row l.packed l.p) l.x l.g
