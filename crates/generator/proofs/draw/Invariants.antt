-- After k turns the number is that of k outputs.
use Rattle.std.proofs.Common.{◌≡◌, ◌-◌, ◌≤◌}
use Rattle.staircase.specs.Load.{state_after, drawn_bits}
use Rattle.generator.proofs.draw.Given as goal

abbrev pub invariant-loop-k : goal.invariant-loop-k
invariant-loop-k l = (l.k ≤ 16) × (l.s ≡ state_after l.seed l.k) × (l.number ≡ drawn_bits l.seed l.k)

abbrev pub decreases-loop-k : goal.decreases-loop-k
decreases-loop-k l = 16 - l.k
