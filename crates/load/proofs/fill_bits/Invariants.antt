-- The bytes so far are the outputs of a step each.
use mathlib.Core.Path.{◌≡◌}
use Rattle.staircase.specs.Load.{state_after, load_bit}
use Rattle.staircase.proofs.Fill.{filled}
use Rattle.load.proofs.fill_bits.Given as goal

abbrev pub invariant-loop-bit : goal.invariant-loop-bit
invariant-loop-bit l = (l.s ≡ state_after l.seed l.bit-index) × (l.bits ≡ filled (load_bit l.seed) l.initial.bits l.bit-index)
