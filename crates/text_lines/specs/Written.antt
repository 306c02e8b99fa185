-- The texts that are written, in the steps of the writing.
--   chars                        the characters of bits
--   lines_text                    lines that each have a number, from a number on
--   next_block, next_group         the line of a block, of a group, from the bits that are left
--   block_lines_text, group_lines_text       the lines of blocks, of groups
-- A byte is a number below 256; 10 is the line feed and 32 the space. `dec` of the crate `text_formats` is a number in decimal digits.
-- Assumes nothing: these are definitions.
use Rattle.std.specs.Prelude.{ℕ, zero, suc, ◌*◌, List, [], ◌++◌, length, take, drop}
use Rattle.text_formats.specs.Items.{bits, spell}
use Rattle.text.specs.FrameText.{bits_text, group_line_text}

-- "number and M × M bits": the character `0` or `1` of each bit.
unfoldable pub chars : List ℕ → List ℕ
chars vs = spell (bits (length vs)) vs

-- The lines of the numbers p to p + k - 1, by a rule for the line of a number and the bits that are left; each takes w of them.
unfoldable pub lines_text : (ℕ → List ℕ → List ℕ) → ℕ → ℕ → ℕ → List ℕ → List ℕ
lines_text line w p zero bits = []
lines_text line w p (suc k) bits = line p bits ++ lines_text line w (suc p) k (drop w bits)

-- The line of block p with the next `area` bits.
abbrev pub next_block : ℕ → ℕ → List ℕ → List ℕ
next_block area p bits = bits_text p (take area bits)

-- The line of group p with the next n bits, its Y, and the n after these, its P.
abbrev pub next_group : ℕ → ℕ → List ℕ → List ℕ
next_group n p bits = group_line_text p (take n bits) (take n (drop n bits))

-- "blocks numbered from 1 in order": here from p on.
abbrev pub block_lines_text : ℕ → ℕ → ℕ → List ℕ → List ℕ
block_lines_text area p k bits = lines_text (next_block area) area p k bits

abbrev pub group_lines_text : ℕ → ℕ → ℕ → List ℕ → List ℕ
group_lines_text n p k bits = lines_text (next_group n) (2 * n) p k bits
