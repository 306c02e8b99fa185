-- The loop's invariant: each entry has the sum over the first `j` rows of its column added, and `reads` is `j`.
use mathlib.Core.Path.{◌≡◌}
use Prim.Native.Nat.{ℕ, ◌+◌, ◌*◌, ◌<◌}
use lib.ListN.{length, get_or}
use Rattle.bch.specs.Polynomial.{◌⊕◌}
use Rattle.bch.specs.Powers.{xor_sum}
use Rattle.bch_remainders.proofs.read_rows.Given as goal

abbrev pub invariant-loop-j : goal.invariant-loop-j
invariant-loop-j l =
    (l.reads ≡ l.j) × (length l.acc ≡ length l.initial.acc)
    × ((a : ℕ) → a < length l.initial.acc → get_or l.acc a 0 ≡ get_or l.initial.acc a 0 ⊕ xor_sum l.j (λ i. get_or l.block (i * length l.initial.acc + a) 0 * get_or l.part i 0))
