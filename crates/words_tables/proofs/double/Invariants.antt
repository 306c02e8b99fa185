-- The loop's invariant: the first `v` sums behind are made.
use mathlib.Core.Path.{◌≡◌}
use Prim.Native.Nat.{ℕ, ◌<◌}
use lib.ListN.{get_or}
use Rattle.bch.specs.Polynomial.{◌⊕◌}
use Rattle.words_tables.proofs.double.Given as goal

abbrev pub invariant-loop-v : goal.invariant-loop-v
invariant-loop-v l = (k : ℕ) → k < l.v → get_or l.more k 0 ≡ get_or l.fn.table k 0 ⊕ l.x
