-- The loop's invariant: the numbers before `k` are counted.
use mathlib.Core.Path.{◌≡◌}
use Prim.Native.Nat.{◌≤◌}
use Rattle.decoder_kept.specs.Numbers.{nonzero_numbers}
use Rattle.decoder_kept.proofs.count.Given as goal

abbrev pub invariant-loop-k : goal.invariant-loop-k
invariant-loop-k l = (l.numbers ≤ l.k) × (l.numbers ≡ nonzero_numbers l.kept l.k)
