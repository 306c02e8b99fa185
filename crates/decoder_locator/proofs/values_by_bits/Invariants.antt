-- The loop's invariant: `acc` is the sum of the values of the bits so far; the entries before theirs are left.
use mathlib.Core.Path.{◌≡◌}
use Prim.Native.Nat.{◌+◌, ◌-◌, ◌*◌, ◌/◌, ◌%◌, ◌^◌}
use lib.ListN.{length, take}
use Rattle.std.specs.Iterator.Adapters.{enumerate_count, enumerate_source, take_count, take_source, rev_source}
use Rattle.std.specs.Slice.Iter.{iter_rest}
use Rattle.bch.specs.Field.{power}
use Rattle.bch.specs.Powers.{xor_sum}
use Rattle.decoder_locator.proofs.values_by_bits.Given as goal

abbrev pub invariant-loop-k : goal.invariant-loop-k
invariant-loop-k l =
    (take_count (enumerate_source l.k-iterator) + enumerate_count l.k-iterator ≡ l.r)
    × (iter_rest (rev_source (take_source (enumerate_source l.k-iterator))) ≡ take (length l.table - enumerate_count l.k-iterator) l.table)
    × (l.acc ≡ xor_sum (enumerate_count l.k-iterator) (λ i. (l.x / 2 ^ i % 2) * (power l.m i + 65536 * power l.m (3 * i))))
