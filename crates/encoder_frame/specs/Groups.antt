-- The groups of a frame by what code has at hand: parts of the information, the tables of powers of x, and the places that the parity list brings.
--   group_from   the group that i groups precede
--   frame_from   the groups of the frame that f frames precede
--   start_from   Q and P of the group that i groups precede as they would be for Y = 0
--   start_at, group_at   the same, and the group, for group q of the groups of all frames
--   FrameReady       what is asked of the sizes and slices of a frame
--   FramesReady      and of frames of one length, joined
--   Encodable   what the encoder's rules leave of a design, its kit and n frames
-- Assumes nothing.
use Rattle.std.specs.Prelude.{◌≡◌, List, ℕ, ◌+◌, ◌*◌, ◌/◌, ◌%◌, ◌≤◌, length, get_or}
use Rattle.bch.specs.Polynomial.{Bits}
use Rattle.staircase.specs.Lists.{concat}
use Rattle.staircase.specs.Design.{most-blocks}
use Rattle.staircase.specs.System.{row_bytes}
use Rattle.staircase.specs.Demand2.{Permutes}
use Rattle.staircase.specs.Frame.{groups}
use Rattle.staircase.specs.Rules.{entries}
use Rattle.staircase.specs.Batch.{most-frames, frame_at}
use Rattle.design.specs.declared.Design.{Design}
use Rattle.design.specs.Answers.{Allowed}
use Rattle.design.specs.Sizes.{order_of}
use Rattle.words_blocks.specs.Blocks.{block_bytes}
use Rattle.encoder_frame.specs.Group.{group_of, start_of, WordTables}

unfoldable pub group_from : List ℕ → List ℕ → List ℕ → List ℕ → ℕ → ℕ → ℕ → List ℕ → ℕ → List ℕ
group_from columns positions preimages inverse size r L info i =
    group_of columns positions preimages inverse size r (λ k. get_or (block_bytes L (size * size) info (2 * i)) k 0)
    (λ k. get_or (block_bytes L (size * size) info (2 * i + 1)) k 0) (λ k. get_or (block_bytes L (size * size) info (2 * i + 2)) k 0)

unfoldable pub frame_from : List ℕ → List ℕ → List ℕ → List ℕ → ℕ → ℕ → ℕ → List ℕ → ℕ → List ℕ
frame_from columns positions preimages inverse size r L info f =
    concat (groups L) (group_from columns positions preimages inverse size r L (frame_at (L * (size * size)) info f))

-- ---- steps of the code: Q and P for Y = 0, and groups numbered through all frames

unfoldable pub start_from : List ℕ → List ℕ → ℕ → ℕ → ℕ → List ℕ → ℕ → List ℕ
start_from columns positions size r L info i =
    start_of columns positions size r (λ k. get_or (block_bytes L (size * size) info (2 * i)) k 0)
    (λ k. get_or (block_bytes L (size * size) info (2 * i + 1)) k 0) (λ k. get_or (block_bytes L (size * size) info (2 * i + 2)) k 0)

unfoldable pub start_at : List ℕ → List ℕ → ℕ → ℕ → ℕ → List ℕ → ℕ → List ℕ
start_at columns positions size r L info q = start_from columns positions size r L (frame_at (L * (size * size)) info (q / groups L)) (q % groups L)

unfoldable pub group_at : List ℕ → List ℕ → List ℕ → List ℕ → ℕ → ℕ → ℕ → List ℕ → ℕ → List ℕ
group_at columns positions preimages inverse size r L info q =
    group_from columns positions preimages inverse size r L (frame_at (L * (size * size)) info (q / groups L)) (q % groups L)

pub record FrameReady (L size r : ℕ) (info columns positions : List ℕ) : Type 0 where
  pub few-blocks : L ≤ most-blocks
  pub tables : WordTables size r positions
  pub column-tables : WordTables size r columns
  pub blocks : length info ≡ L * (size * size)
  pub bits : Bits info

pub record FramesReady (L n size r : ℕ) (info columns positions : List ℕ) : Type 0 where
  pub few-blocks : L ≤ most-blocks
  pub few-frames : n ≤ most-frames
  pub tables : WordTables size r positions
  pub column-tables : WordTables size r columns
  pub blocks : length info ≡ n * (L * (size * size))
  pub bits : Bits info

pub record Encodable (d : Design) (L n : ℕ) (parity inverse info red : List ℕ) : Type 0 where
  pub allowed : Allowed d
  pub few-blocks : L ≤ most-blocks
  pub few-frames : n ≤ most-frames
  pub parity_length : length parity ≡ 2 * order_of d
  pub inverse_length : length inverse ≡ order_of d * row_bytes (order_of d)
  pub info_length : length info ≡ n * (L * (d.size * d.size))
  pub red_length : length red ≡ n * (groups L * (2 * order_of d))
  pub parity_permutes : Permutes (order_of d) (λ p. get_or (entries (order_of d) parity) p 0)
  pub bits : Bits info
