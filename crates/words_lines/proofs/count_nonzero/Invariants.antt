-- The loop's invariant: what is counted, and what is left to count.
use mathlib.Core.Path.{◌≡◌}
use Prim.Native.Nat.{◌+◌, ◌≤◌}
use lib.ListN.{drop}
use Rattle.words_lines.specs.Words.{nonzeros}
use Rattle.words_lines.proofs.count_nonzero.Given as goal

abbrev pub invariant-loop-x : goal.invariant-loop-x
invariant-loop-x l = (l.n ≤ l.x-index) × (l.n + nonzeros (drop l.x-index l.list) ≡ nonzeros l.list)
