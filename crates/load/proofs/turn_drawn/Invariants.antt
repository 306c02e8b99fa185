-- The bits so far are turned by their draws, and the state is that after as many draws.
use mathlib.Core.Path.{◌≡◌}
use Prim.Native.Nat.{◌*◌}
use Rattle.staircase.specs.Load.{state_after, random_turns}
use Rattle.staircase.proofs.Fill.{filled}
use Rattle.load.proofs.Turning.{turn_bit}
use Rattle.load.proofs.turn_drawn.Given as goal

abbrev pub invariant-loop-bit : goal.invariant-loop-bit
invariant-loop-bit l =
    (l.s ≡ state_after l.seed (16 * l.bit-index))
    × (l.bits ≡ filled (turn_bit (random_turns l.seed l.limit) l.initial.bits) l.initial.bits l.bit-index)
