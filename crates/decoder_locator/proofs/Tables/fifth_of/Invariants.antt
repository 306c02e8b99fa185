-- The loop's invariant: `acc` is the sum of the values of the first `k` bits, and power e is that of 5 k.
use mathlib.Core.Path.{◌≡◌}
use Prim.Native.Nat.{◌-◌, ◌*◌, ◌/◌, ◌%◌, ◌^◌, ◌≤◌, ◌<◌}
use Rattle.bch.specs.Field.{power}
use Rattle.bch.specs.Powers.{xor_sum}
use Rattle.decoder_locator.proofs.Tables.fifth_of.Given as goal

abbrev pub invariant-loop-k : goal.invariant-loop-k
invariant-loop-k l =
    (l.k ≤ l.r) × (l.e < 2 ^ l.self.m - 1) × (power l.self.m l.e ≡ power l.self.m (5 * l.k)) × (l.acc ≡ xor_sum l.k (λ i. (l.x / 2 ^ i % 2) * power l.self.m (5 * i)))
