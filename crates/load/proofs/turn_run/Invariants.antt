-- Those of the first k bits that are in the run are turned.
use mathlib.Core.Path.{◌≡◌}
use Prim.Native.Nat.{◌+◌}
use Rattle.staircase.specs.Load.{run_turns}
use Rattle.staircase.proofs.Fill.{filled}
use Rattle.load.proofs.Turning.{turn_bit}
use Rattle.load.proofs.turn_run.Given as goal

abbrev pub invariant-loop-k : goal.invariant-loop-k
invariant-loop-k l = l.bits ≡ filled (turn_bit (λ j. run_turns l.place l.long (l.first + j)) l.initial.bits) l.initial.bits l.k
