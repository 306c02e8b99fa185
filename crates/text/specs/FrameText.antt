-- Document 01, "Programs": block text, group text, and frame text, which is block text followed by group text and which `mend` reads.
--   block_format area most          "`block bits`, then number and M × M bits, for 1 to 4,096 blocks numbered from 1 in order"
--   frame_format area n most        block text "followed by group text in that form, with exactly G groups"
--   BlockText, FrameText           the same texts, said by the number of blocks
--   block_text, group_text           the block text and the group text of given bits
--   frame_bytes                     how many bytes a frame text has
--   line_text, bits_text, group_line_text   a line of a number and runs of bits; of a block; of a group
-- `area` is M × M, `n` is M × r, `most` is the largest number of blocks. The mark at a text's end is its number of blocks.
-- Assumes nothing.
use Rattle.std.specs.Prelude.{ℕ, zero, suc, ◌+◌, ◌-◌, ◌*◌, ◌≤◌, List, [], ◌∷◌, ◌++◌, length}
use Rattle.text_formats.specs.Format.{Item, byte, Format, end, ◌▷◌, opt, fork, dec}
use Rattle.text_formats.specs.Items.{lits, seq, fields, lines_from, bits_line, bits_lines, spell, Spells}
use Rattle.staircase.specs.Frame.{groups}

-- ---- block text

-- "`block bits`" as a line
abbrev pub block_names : List ℕ
block_names = 98 ∷ 108 ∷ 111 ∷ 99 ∷ 107 ∷ 32 ∷ 98 ∷ 105 ∷ 116 ∷ 115 ∷ 10 ∷ []

-- after i lines, at most k more: the text ends, or goes on
unfoldable pub block_tail : ℕ → ℕ → ℕ → Format
block_tail area zero i = end i
block_tail area (suc k) i = opt i (seq (bits_line area (suc i)) (block_tail area k (suc i)))

unfoldable pub block_format : ℕ → ℕ → Format
block_format area most = seq (lits block_names) (seq (bits_line area 1) (block_tail area (most - 1) 1))

-- ---- frame text

-- `group self parity` and a line feed, behind the first byte, which tells it from a block's line
abbrev pub group_names_tail : List ℕ
group_names_tail = 114 ∷ 111 ∷ 117 ∷ 112 ∷ 32 ∷ 115 ∷ 101 ∷ 108 ∷ 102 ∷ 32 ∷ 112 ∷ 97 ∷ 114 ∷ 105 ∷ 116 ∷ 121 ∷ 10 ∷ []

-- "`group self parity`" as a line
abbrev pub group_names : List ℕ
group_names = 103 ∷ group_names_tail

-- "number, Y, P"
unfoldable pub group_line : ℕ → ℕ → List Item
group_line n p = lits (dec p) ++ fields (n ∷ n ∷ [])

abbrev pub group_lines : ℕ → ℕ → ℕ → List Item
group_lines n p k = lines_from (group_line n) p k

-- the group text of L blocks, behind its first byte
unfoldable pub group_tail : ℕ → ℕ → Format
group_tail n L = seq (lits group_names_tail ++ group_lines n 1 (groups L)) (end L)

-- after i block lines, at most k more: `g` begins the group text, anything else the next block
unfoldable pub frame_tail : ℕ → ℕ → ℕ → ℕ → Format
frame_tail area n zero i = byte 103 ▷ group_tail n i
frame_tail area n (suc k) i = fork 103 (group_tail n i) (seq (bits_line area (suc i)) (frame_tail area n k (suc i)))

unfoldable pub frame_format : ℕ → ℕ → ℕ → Format
frame_format area n most = seq (lits block_names) (seq (bits_line area 1) (frame_tail area n (most - 1) 1))

-- ---- the same texts by the number of blocks L, with their bits vs

abbrev pub block_items : ℕ → ℕ → List Item
block_items area L = lits block_names ++ bits_lines area 1 L

abbrev pub group_items : ℕ → ℕ → List Item
group_items n G = lits group_names ++ group_lines n 1 G

pub record BlockText (area most L : ℕ) (vs s : List ℕ) : Type 0 where
  pub some : 1 ≤ L
  pub few : L ≤ most
  pub spells : Spells (block_items area L) vs s

pub record FrameText (area n most L : ℕ) (vs s : List ℕ) : Type 0 where
  pub some : 1 ≤ L
  pub few : L ≤ most
  pub spells : Spells (block_items area L ++ group_items n (groups L)) vs s

-- ---- the texts of given bits

-- of L blocks, `area` bits each
unfoldable pub block_text : ℕ → ℕ → List ℕ → List ℕ
block_text area L info = spell (block_items area L) info

-- of G groups, n bits of Y and n of P each
unfoldable pub group_text : ℕ → ℕ → List ℕ → List ℕ
group_text n G red = spell (group_items n G) red

-- a line alone: its number, and runs of bits of these lengths
abbrev pub line_text : ℕ → List ℕ → List ℕ → List ℕ
line_text p ns vs = spell (lits (dec p) ++ fields ns) vs

unfoldable pub bits_text : ℕ → List ℕ → List ℕ
bits_text p vs = line_text p (length vs ∷ []) vs

unfoldable pub group_line_text : ℕ → List ℕ → List ℕ → List ℕ
group_line_text p ys ps = line_text p (length ys ∷ length ps ∷ []) (ys ++ ps)

-- ---- how long they are

-- lines of the numbers p to p + k - 1, each w bytes behind its number
unfoldable pub line_bytes : ℕ → ℕ → ℕ → ℕ
line_bytes w p zero = 0
line_bytes w p (suc k) = length (dec p) + w + line_bytes w (suc p) k

-- two lines of names, 11 and 18 bytes; a block's line has a space, its bits and a line feed, a group's two spaces, 2 n bits and a line feed
unfoldable pub frame_bytes : ℕ → ℕ → ℕ → ℕ
frame_bytes area n L = 29 + line_bytes (area + 2) 1 L + line_bytes (2 * n + 3) 1 (groups L)
