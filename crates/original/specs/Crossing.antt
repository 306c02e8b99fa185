-- The words of an original frame by their numbers, and the other word that has a bit: steps of the decoder, which no promise names. Bit (i, j) of a
-- block stands in the word of its own row i, at position M + j, and in the word of row j of the next block, at position i. A bit of the last block
-- stands in the first of these only.
--   row_count      the words of a frame of L blocks
--   row_word       word w, which is row w % M of the block that w / M blocks precede
--   row_crossing   the other word that has the bit at position p of row a of the block that b blocks precede, and the position
-- Assumes nothing.
use Rattle.std.specs.Prelude.{cond, ℕ, ◌+◌, ◌-◌, ◌*◌, ◌/◌, ◌%◌, ltb}
use Rattle.staircase.specs.Design.{Params}
use Rattle.staircase.specs.Frame.{Word, word}
use Rattle.staircase.specs.Lines.{Incidence, incidence}
use Rattle.original.specs.Frame.{row_sites}

abbrev pub row_count : Params → ℕ → ℕ
row_count s L = L * s.M

abbrev pub row_word : Params → ℕ → Word
row_word s w = word s (row_sites s (w / s.M) (w % s.M))

-- in place of a line the block, which there may not be
unfoldable pub row_crossing : Params → ℕ → ℕ → ℕ → Incidence
row_crossing s b a p = cond (ltb p s.M) (incidence (b - 1) p (s.M + a)) (incidence (b + 1) (p - s.M) a)
