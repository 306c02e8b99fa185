-- The loop's invariant: the words before the 64 k-th are taken, for every row.
use mathlib.Core.Path.{◌≡◌}
use Prim.Native.Nat.{ℕ, ◌*◌, ◌<◌, min}
use lib.ListN.{length, get_or, drop}
use Rattle.std.specs.Iterator.Adapters.{enumerate_count, enumerate_source}
use Rattle.std.specs.Slice.Iter.{chunks_rest, chunks_size}
use Rattle.bch.specs.Polynomial.{◌⊕◌}
use Rattle.encoder_solution.specs.Words.{row_product}
use Rattle.encoder_solution.proofs.product.multiply_in.Given as goal

abbrev pub invariant-loop-k : goal.invariant-loop-k
invariant-loop-k l =
    (chunks_size (enumerate_source l.k-iterator) ≡ 64) × (chunks_rest (enumerate_source l.k-iterator) ≡ drop (64 * enumerate_count l.k-iterator) l.constants)
    × (length l.tables ≡ 2048) × (length l.products ≡ length l.initial.products)
    × ((e : ℕ) → e < length l.initial.products → get_or l.products e 0 ≡ get_or l.initial.products e 0
    ⊕ row_product l.inverse l.w (λ k. get_or l.constants k 0) e (min (64 * enumerate_count l.k-iterator) (8 * l.w)))
