-- The loop's invariant: the first `r` rows of the block are there and the others 0. The measure is the number of rows left.
use mathlib.Core.Bool.{cond}
use mathlib.Core.List.{List}
use Prim.Native.Nat.{ℕ, ◌+◌, ◌-◌, ◌*◌, ◌≤◌}
use lib.Dec.{ltb}
use lib.ListN.{get_or}
use Rattle.matrix.proofs.Block.{Loaded}
use Rattle.matrix.proofs.planes.block_at.Given as goal

-- byte c of row 8 b + r
abbrev pub rows : List ℕ → ℕ → ℕ → ℕ → ℕ → ℕ → ℕ
rows w n rb b c r = cond (ltb (8 * b + r) n) (get_or w ((8 * b + r) * rb + c) 0) 0

abbrev pub invariant-loop-r : goal.invariant-loop-r
invariant-loop-r l = (l.r ≤ 8) × Loaded (rows l.w l.n l.rb l.b l.c) l.q l.r

abbrev pub decreases-loop-r : goal.decreases-loop-r
decreases-loop-r l = 8 - l.r
