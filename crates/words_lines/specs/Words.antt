-- The words of a frame of any kind as it is received, by their remainders: steps of the code, which no promise names.
--   nonzeros        how many entries of a list are not 0
--   layout_with      the layout of some frames under lists that are lent as bytes
--   line_remainders, frame_sites, pass_sites   the remainders of the words of a line, as they are read; all words of a frame; those of a line in a pass
--   reads_in         how many bits of each word of a line are read
--   entry_at         entry p of a list, from its bytes
--   red_place        where the bit at a place of X or Q, or of Y or P, stands in Y or P
--   stretch_sum      what X or Q, or Y or P, gives to the remainder of a word
--   EndsLent        what is asked of a group's redundancy, and of the powers of x that go with it
--   EndsAdded       what both stretches of it give is added for each word
--   line_blocks, tail_sum   what the two blocks of a word give to its remainder, and what is behind them
--   ReadTable       a table has the powers of x that the positions of words carry, from its end where they are read backwards
--   ListsIn         the lists that a kind asks for
--   TailLent, GroupLent, FramesLent   what is asked of the lists and of the redundancy, the same of feed-forward frames, and of a whole frame
--   BlocksLent      what is asked of the information and of the table for the blocks
-- Assumes nothing.
use Rattle.std.specs.Prelude.{◌≡◌, Bool, not, cond, List, [], ◌∷◌, ℕ, ◌+◌, ◌-◌, ◌*◌, ◌/◌, ◌≤◌, ◌<◌, eqb, length, get_or}
use Rattle.bch.specs.Polynomial.{◌⊕◌, Bits, remainder}
use Rattle.bch.specs.Powers.{power_mod}
use Rattle.staircase.specs.Lists.{tabulate, concat}
use Rattle.staircase.specs.Design.{Params, Interleavers, order, word_length, most-blocks}
use Rattle.staircase.specs.Frame.{Frame, Site, groups, read}
use Rattle.staircase.specs.Lines.{even}
use Rattle.staircase.specs.Layout.{Layout}
use Rattle.staircase.specs.Readings.{reads_of}
use Rattle.staircase.specs.Rules.{entries}
use Rattle.design.specs.declared.Design.{Design}
use Rattle.design.specs.Answers.{Allowed}
use Rattle.design.specs.Sizes.{params_of, order_of, lists_of}
use Rattle.rules.specs.Received.{ListsFit}
use Rattle.layout.specs.declared.Shape.{Shape}
use Rattle.layout.specs.declared.Shape.TheVariants.{FeedForward, Original}
use Rattle.layout.specs.declared.Frames.{Frames}
use Rattle.layout.specs.declared.Line.{Line}
use Rattle.layout.specs.Layouts.{lines_in, bits_in, red_in, taken_in, layout_in, rows_first, rows_second, AllowedIn}
use Rattle.words_tables.specs.Tables.{MayHalves, part_of}
use Rattle.words_blocks.specs.Blocks.{block_bytes, part_sum, block_sum}
use Rattle.words_sums.specs.Listed.{Sends}

-- "A codeword is a word that the generator divides": a word is outside the code where its remainder is not 0
unfoldable pub nonzeros : List ℕ → ℕ
nonzeros [] = 0
nonzeros (x ∷ l) = cond (eqb x 0) 0 1 + nonzeros l

-- ---- words

abbrev pub layout_with : Frames → List ℕ → List ℕ → Layout
layout_with f own parity = layout_in f.shape (params_of f.d) (lists_of f.d own parity) f.blocks

abbrev pub line_remainders : Layout → Frame → ℕ → List ℕ
line_remainders G f k = tabulate G.code.M (λ a. remainder G.code.g G.code.r (read f (G.sites k a)))

abbrev pub frame_sites : Layout → List (List Site)
frame_sites G = concat G.lines (λ k. tabulate G.code.M (G.sites k))

abbrev pub pass_sites : Shape → Layout → Bool → ℕ → List (List Site)
pass_sites z G back k = cond (taken_in z G.code back k) (tabulate G.code.M (G.sites k)) []

-- the first row of blocks of an original frame has a block before it that is not sent
unfoldable pub reads_in : Shape → Params → ℕ → ℕ → ℕ
reads_in FeedForward s L k = reads_of s L k
reads_in Original s L k = cond (eqb k 0) s.M (2 * s.M)

-- ---- sums

abbrev pub entry_at : List ℕ → ℕ → ℕ
entry_at list p = get_or list (2 * p) 0 + 256 * get_or list (2 * p + 1) 0

-- row words have X and Q, which the lists send to Y and P; column words have Y and P
unfoldable pub red_place : Bool → List ℕ → ℕ → ℕ
red_place rows list q = cond rows (get_or list q 0) q

-- word a of w words: n bits of the redundancy from bit `at` on, and r entries of the table from entry `from` on
abbrev pub stretch_sum : Bool → List ℕ → List ℕ → List ℕ → ℕ → ℕ → ℕ → ℕ → ℕ → ℕ → ℕ
stretch_sum rows list bits part at n from r w a = part_sum part from r (λ j. get_or bits (at + red_place rows (entries n list) (j * w + a)) 0)

-- of the bits, of the powers and of their tables, if there are any, a half is for each stretch of w words
pub record EndsLent (own parity bits part tables : List ℕ) (w : ℕ) : Type 0 where
  pub own_sends : Sends own (length bits / 2)
  pub parity_sends : Sends parity (length bits / 2)
  pub area : length bits / 2 ≡ length part / 2 * w
  pub binary : Bits bits
  pub few-columns : w ≤ 512
  pub halves : MayHalves part (length part / 2) tables

abbrev pub EndsAdded : Bool → List ℕ → List ℕ → List ℕ → List ℕ → List ℕ → List ℕ → Type 0
EndsAdded rows own parity bits part old new =
    (length new ≡ length old)
    × ((a : ℕ) → a < length old → get_or new a 0 ≡ get_or old a 0 ⊕ stretch_sum rows own bits part 0 (length bits / 2) 0 (length part / 2) (length old) a
    ⊕ stretch_sum rows parity bits part (length bits / 2) (length bits / 2) (length part / 2) (length part / 2) (length old) a)

-- row a of block k and of block k + 1, or column a
unfoldable pub line_blocks : Shape → List ℕ → ℕ → ℕ → List ℕ → ℕ → ℕ → ℕ
line_blocks z positions size L info k =
    block_sum (not (rows_first z k)) (not (rows_second z k)) positions size (λ j. get_or (block_bytes L (size * size) info k) j 0)
    (λ j. get_or (block_bytes L (size * size) info (k + 1)) j 0)

unfoldable pub tail_sum : Shape → Params → Interleavers → List ℕ → List ℕ → ℕ → ℕ → ℕ
tail_sum FeedForward s l red positions k a =
    part_sum positions (2 * s.M) s.r (λ j. get_or red (k / 2 * (2 * order s) + red_place (even k) l.self (j * s.M + a)) 0)
    ⊕ part_sum positions (2 * s.M + s.r) s.r (λ j. get_or red (k / 2 * (2 * order s) + order s + red_place (even k) l.parity (j * s.M + a)) 0)
tail_sum Original s l red positions k a = 0

-- ---- what is asked

pub record ReadTable (z : Shape) (s : Params) (back : Bool) (positions : List ℕ) : Type 0 where
  pub long : length positions ≡ bits_in z s
  pub powers : (j : ℕ) → j < bits_in z s → get_or positions j 0 ≡ power_mod s.g s.r (bits_in z s - 1 - cond back (bits_in z s - 1 - j) j)

unfoldable pub ListsIn : Shape → Design → List ℕ → List ℕ → Type 0
ListsIn FeedForward d own parity = ListsFit d own parity
ListsIn Original d own parity = Unit

pub record TailLent (f : Frames) (own parity red : List ℕ) : Type 0 where
  pub few-blocks : f.blocks ≤ most-blocks
  pub allowed : AllowedIn f.shape f.d
  pub lists : ListsIn f.shape f.d own parity
  pub long : length red ≡ red_in f.shape (params_of f.d) f.blocks
  pub bits : Bits red

-- line k of feed-forward frames, with w sums
pub record GroupLent (line : Line) (own parity red positions tables : List ℕ) (w : ℕ) : Type 0 where
  pub few-blocks : line.frames.blocks ≤ most-blocks
  pub allowed : Allowed line.frames.d
  pub within : line.k < 2 * groups line.frames.blocks
  pub lists : ListsFit line.frames.d own parity
  pub red-long : length red ≡ groups line.frames.blocks * (2 * order_of line.frames.d)
  pub red-bits : Bits red
  pub long : length positions ≡ word_length (params_of line.frames.d)
  pub wide : w ≡ line.frames.d.size
  pub halves : MayHalves (part_of positions (2 * line.frames.d.size) (2 * (line.frames.d.m * line.frames.d.t))) (line.frames.d.m * line.frames.d.t) tables

pub record FramesLent (f : Frames) (own parity info red : List ℕ) : Type 0 where
  pub tail : TailLent f own parity red
  pub long : length info ≡ f.blocks * (f.d.size * f.d.size)
  pub bits : Bits info

pub record BlocksLent (f : Frames) (k size : ℕ) (info positions : List ℕ) : Type 0 where
  pub few-blocks : f.blocks ≤ most-blocks
  pub within : k < lines_in f.shape f.blocks
  pub few-columns : size ≤ 512
  pub blocks : length info ≡ f.blocks * (size * size)
  pub bits : Bits info
  pub powers : 2 * size ≤ length positions
