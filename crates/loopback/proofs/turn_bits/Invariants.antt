-- The loop's invariant: the bits before k are turned.
use mathlib.Core.Path.{◌≡◌}
use mathlib.Core.Bool.{cond}
use Prim.Native.Nat.{◌-◌}
use lib.Dec.{eqb}
use lib.ListN.{get_or}
use Rattle.staircase.proofs.Fill.{filled}
use Rattle.loopback.proofs.turn_bits.Given as goal

abbrev pub invariant-loop-k : goal.invariant-loop-k
invariant-loop-k l = l.bits ≡ filled (λ j. cond (eqb (get_or l.errors j 0) 0) (get_or l.initial.bits j 0) (1 - get_or l.initial.bits j 0)) l.initial.bits l.k
