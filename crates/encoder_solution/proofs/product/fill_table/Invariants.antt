-- The loop's invariant: the first w entries, w = 2^i, are the sums of the first i words.
use mathlib.Core.Path.{◌≡◌}
use Prim.Native.Nat.{ℕ, ◌^◌, ◌<◌}
use lib.ListN.{length, get_or}
use Rattle.words_tables.specs.Tables.{sum_at}
use Rattle.encoder_solution.proofs.product.fill_table.Given as goal

abbrev pub invariant-loop-word : goal.invariant-loop-word
invariant-loop-word l =
    (l.w ≡ 2 ^ l.word-index) × (length l.table ≡ 256)
    × ((v : ℕ) → v < l.w → get_or l.table v 0 ≡ sum_at (λ k. get_or l.words k 0) l.word-index v)
