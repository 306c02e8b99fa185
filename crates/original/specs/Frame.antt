-- Document 02, "Original staircase frames", after the paper's section II. "Whole blocks stand in one buffer", which is a frame's information; its
-- redundancy is empty. Blocks are counted from 1, and block 0 is not sent.
--   block_site          the site of a bit of a block
--   row_of, rows        row a of the block that b blocks precede, and the rows of all blocks in the order of a round
--   row_sites, row_words the same as words of the design's code
--   buffer_of           the frame that a buffer is
--   encoded            the buffer with its parity
-- Assumes nothing.
use Rattle.std.specs.Prelude.{List, [], ◌++◌, map, ℕ, zero, suc, ◌+◌, ◌-◌, ◌*◌}
use Rattle.staircase.specs.Lists.{tabulate, concat}
use Rattle.staircase.specs.Design.{Params}
use Rattle.staircase.specs.Frame.{Frame, Site, Word, frame_of}
use Rattle.staircase.specs.Frame.Site.{unsent, in_info}
use Rattle.original.specs.Systematic.{Systematic, whole, encode_each}

-- "Block 0 is zero and not sent."
abbrev pub block_site : Params → ℕ → ℕ → Site
block_site s zero k = unsent
block_site s (suc b) k = in_info (b * (s.M * s.M) + k)

-- "its last r columns the parity of the rows of the transpose of block i-1 beside block i": column a of block b, then row a of block b + 1
unfoldable pub row_of : Params → ℕ → ℕ → Systematic
row_of s b a =
    record {
      code = s;
      info = tabulate s.M (λ j. block_site s b (j * s.M + a)) ++ tabulate (s.M - s.r) (λ j. block_site s (suc b) (a * s.M + j));
      end = tabulate s.r (λ j. block_site s (suc b) (a * s.M + (s.M - s.r + j)));
    }

-- "A round takes the blocks in order, in each the rows 0 to M - 1"
unfoldable pub rows : Params → ℕ → List Systematic
rows s L = concat L (λ b. tabulate s.M (row_of s b))

abbrev pub row_sites : Params → ℕ → ℕ → List Site
row_sites s b a = (row_of s b a).info ++ (row_of s b a).end

unfoldable pub row_words : Params → ℕ → List Word
row_words s L = map whole (rows s L)

abbrev pub buffer_of : List ℕ → Frame
buffer_of l = frame_of l []

-- "the encoder writes only their last r columns"
unfoldable pub encoded : Params → ℕ → List ℕ → List ℕ
encoded s L l = (encode_each (buffer_of l) (rows s L)).info
