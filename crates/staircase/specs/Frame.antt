-- Document 01, "Frame": a frame in its two buffers, and its words. Blocks are counted from 1, as in document 01, and groups from 0: the group that
-- i groups precede has blocks 2i, 2i + 1 and 2i + 2, and block 0 is B0.
--   Frame, frame_of, Site      the buffers, and where a bit of a word stands in them
--   bit_at, flip               the bit at a site, and the frame with it turned
--   groups L                  G
--   block_at, y_at, p_at the sites of a block, of Y and of P
--   block                     the bits of a block
--   row_sites, column_sites     the sites of a row word and of a column word
--   Word, word                a word with its code
--   row_at, column_at           row words and column words in their codes
--   words                     all words in the order of a round
--   plain                     words of one code
--   read, in_code              the bits of a word, and the test whether it is a codeword
--   outside_each, outside_among, outside   how many words are outside their codes, of one code, of a frame
-- Assumes nothing.
use Rattle.std.specs.Prelude.{Bool, cond, List, [], ◌∷◌, ◌++◌, map, ℕ, zero, suc, ◌+◌, ◌-◌, ◌*◌, ◌/◌, ltb, get_or, set}
use Rattle.bch.specs.Code.{is_codeword}
use Rattle.staircase.specs.Lists.{tabulate, concat}
use Rattle.staircase.specs.Design.{Params, Interleavers, column_code, order}
use Rattle.staircase.specs.Word.{row_word, column_word}

-- "Buffers are one bit a byte": information and redundancy
pub record Frame : Type 0 where
  pub info : List ℕ
  pub red : List ℕ

abbrev pub frame_of : List ℕ → List ℕ → Frame
frame_of info red = record { info = info; red = red }

-- a byte of one of the buffers, or nowhere where the block is not sent
pub data Site : Type 0 where
  unsent : Site
  in_info : ℕ → Site
  in_red : ℕ → Site

-- "Unsent blocks are zero"
abbrev pub bit_at : Frame → Site → ℕ
bit_at f unsent = 0
bit_at f (in_info k) = get_or f.info k 0
bit_at f (in_red k) = get_or f.red k 0

abbrev pub flip : Site → Frame → Frame
flip unsent f = f
flip (in_info k) f = record { info = set f.info k (1 - get_or f.info k 0); red = f.red }
flip (in_red k) f = record { info = f.info; red = set f.red k (1 - get_or f.red k 0) }

-- "There are G groups, G = L / 2 rounded up"
abbrev pub groups : ℕ → ℕ
groups L = (L + 1) / 2

-- "B0 is all zero and not sent. For odd L the block after the last is all zero and not sent."
abbrev pub block_at : Params → ℕ → ℕ → ℕ → Site
block_at s L zero k = unsent
block_at s L (suc b) k = cond (ltb b L) (in_info (b * (s.M * s.M) + k)) unsent

abbrev pub block_contents : Params → ℕ → List ℕ → ℕ → ℕ → ℕ
block_contents s L info b k = bit_at (record { info = info; red = [] }) (block_at s L b k)

-- "Group i is Y (r × M), then P (r × M)"
abbrev pub y_at : Params → ℕ → ℕ → Site
y_at s i q = in_red (i * (2 * order s) + q)

abbrev pub p_at : Params → ℕ → ℕ → Site
p_at s i q = in_red (i * (2 * order s) + order s + q)

-- "Row word a of group i: row a of B(2i-2), of B(2i-1), of X, of Q"
unfoldable pub row_sites : Params → Interleavers → ℕ → ℕ → ℕ → List Site
row_sites s l L i a = row_word s l (block_at s L (2 * i)) (block_at s L (2 * i + 1)) (y_at s i) (p_at s i) a

-- "Column word a: column a of B(2i-1), of B(2i), of Y, of P"
unfoldable pub column_sites : Params → ℕ → ℕ → ℕ → List Site
column_sites s L i a = column_word s (block_at s L (2 * i + 1)) (block_at s L (2 * i + 2)) (y_at s i) (p_at s i) a

-- Of the parameters of a word's code r, t and g count.
pub record Word : Type 0 where
  pub code : Params
  pub sites : List Site

abbrev pub word : Params → List Site → Word
word s w = record { code = s; sites = w }

abbrev pub row_at : Params → Interleavers → ℕ → ℕ → ℕ → Word
row_at s l L i a = word s (row_sites s l L i a)

-- document 02: "its column words are checked and mended in that code"
abbrev pub column_at : Params → ℕ → ℕ → ℕ → Word
column_at s L i a = word (column_code s) (column_sites s L i a)

-- "groups 1 to G, in each the row words 0 to M-1, then the column words"
unfoldable pub words : Params → Interleavers → ℕ → List Word
words s l L = concat (groups L) (λ i. tabulate s.M (row_at s l L i) ++ tabulate s.M (column_at s L i))

abbrev pub plain : Params → List (List Site) → List Word
plain s ws = map (word s) ws

abbrev pub read : Frame → List Site → List ℕ
read f w = map (bit_at f) w

-- "A codeword is a word that the generator divides"
abbrev pub in_code : Params → Frame → List Site → Bool
in_code s f w = is_codeword s.g s.r (read f w)

-- "the words outside the code"
unfoldable pub outside_each : Frame → List Word → ℕ
outside_each f [] = 0
outside_each f (w ∷ ws) = cond (in_code w.code f w.sites) 0 1 + outside_each f ws

unfoldable pub outside_among : Params → Frame → List (List Site) → ℕ
outside_among s f ws = outside_each f (plain s ws)

unfoldable pub outside : Params → Interleavers → ℕ → Frame → ℕ
outside s l L f = outside_each f (words s l L)
