-- The loop's invariant: `acc` has the values of the lowest 4 k bits.
use mathlib.Core.Path.{◌≡◌}
use Prim.Native.Nat.{◌+◌, ◌*◌, ◌/◌, ◌%◌, ◌^◌, ◌≤◌}
use Rattle.bch.specs.Locator.{syndromes}
use Rattle.decoder_locator.proofs.Locator.values_of.Given as goal

abbrev pub invariant-loop-k : goal.invariant-loop-k
invariant-loop-k l = (l.k-end ≡ (l.r + 3) / 4) × (l.k ≤ l.k-end) × (l.acc ≡ syndromes l.self.tables.m (l.x % 2 ^ (4 * l.k)))
