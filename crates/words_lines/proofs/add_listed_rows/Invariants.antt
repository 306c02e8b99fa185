-- The loop's invariant: each sum has the part over the first `j` rows added, and `reads` is `j`.
use mathlib.Core.Path.{◌≡◌}
use Prim.Native.Nat.{ℕ, ◌+◌, ◌*◌, ◌<◌}
use lib.ListN.{length, get_or}
use Rattle.bch.specs.Polynomial.{◌⊕◌}
use Rattle.bch.specs.Powers.{xor_sum}
use Rattle.words_sums.specs.Listed.{listed_bit}
use Rattle.words_lines.proofs.add_listed_rows.Given as goal

abbrev pub invariant-loop-j : goal.invariant-loop-j
invariant-loop-j l =
    (l.reads ≡ l.j) × (length l.sums ≡ length l.initial.sums)
    × ((a : ℕ) → a < length l.initial.sums → get_or l.sums a 0 ≡ get_or l.initial.sums a 0 ⊕ xor_sum l.j (λ i. listed_bit l.list l.bits (i * length l.initial.sums + a) * get_or l.part i 0))
