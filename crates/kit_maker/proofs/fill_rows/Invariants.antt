-- The loop's invariant: the left halves of the first `e` rows hold rows of A.
use mathlib.Core.Path.{◌≡◌}
use Prim.Native.Nat.{ℕ, ◌<◌}
use Rattle.staircase.specs.Rules.{entries}
use Rattle.matrix_elimination.specs.Steps.{left}
use Rattle.kit_maker.specs.Making.{sent_row}
use Rattle.kit_maker.proofs.fill_rows.Given as goal

abbrev pub invariant-loop-e : goal.invariant-loop-e
invariant-loop-e l =
    (i k : ℕ) → i < l.e → k < l.n → left l.n l.m i k ≡ sent_row l.columns l.part (entries l.n l.own) l.size l.preimages i k
