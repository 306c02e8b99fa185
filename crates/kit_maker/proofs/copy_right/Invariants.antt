-- The loop's invariant: the first `e` rows are those of the right halves.
use mathlib.Core.Path.{◌≡◌}
use Prim.Native.Nat.{◌*◌}
use Rattle.staircase.specs.System.{row_bytes}
use Rattle.staircase.proofs.Fill.{filled}
use Rattle.kit_maker.specs.Making.{right_byte}
use Rattle.kit_maker.proofs.copy_right.Given as goal

abbrev pub invariant-loop-e : goal.invariant-loop-e
invariant-loop-e l = l.out ≡ filled (right_byte l.m l.n) l.initial.out (l.e * row_bytes l.n)
