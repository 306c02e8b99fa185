-- The loop's invariant: no column before `x` is wrong.
use mathlib.Core.Path.{◌≡◌}
use mathlib.Core.Bool.{false}
use Prim.Native.Nat.{ℕ, ◌<◌}
use Rattle.matrix.proofs.Wrong.{wrong_at}
use Rattle.matrix.proofs.search_wrong.Given as goal

abbrev pub invariant-loop-x : goal.invariant-loop-x
invariant-loop-x l = (k : ℕ) → k < l.x → wrong_at l.acc l.e k ≡ false
