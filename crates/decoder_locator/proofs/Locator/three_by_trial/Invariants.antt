-- The loop's invariant: no position before `j` is one of three.
use mathlib.Core.Path.{◌≡◌}
use Prim.Native.Nat.{◌≤◌}
use lib.ListN.{length}
use Rattle.decoder_locator.proofs.Triples.{NotBefore}
use Rattle.decoder_locator.proofs.Locator.three_by_trial.Given as goal

abbrev pub invariant-loop-j : goal.invariant-loop-j
invariant-loop-j l = (l.j-end ≡ length l.self.positions.now) × (l.j ≤ length l.self.positions.now) × NotBefore l.self.positions.now l.x l.j
