-- The loop's invariant: the low bit of what is gathered tells whether one of the bytes so far has an odd number of ones.
use mathlib.Core.Path.{◌≡◌}
use Prim.Native.Nat.{◌%◌}
use lib.Dec.{eqb, ltb}
use Rattle.staircase.specs.Lists.{first_where}
use Rattle.matrix.proofs.Wrong.{odd_at}
use Rattle.matrix.proofs.some_odd.Given as goal

abbrev pub invariant-loop-byte : goal.invariant-loop-byte
invariant-loop-byte l = eqb (l.all % 2) 1 ≡ ltb (first_where l.byte-index (odd_at l.bytes)) l.byte-index
