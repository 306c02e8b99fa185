-- The blocks of a frame as parts of the information, and sums over them by the table of powers of x that the positions of a word carry: its first M
-- entries are for the first block of a word, the next M for the second.
--   sent L b                   block b of a frame of L blocks is sent
--   block_bytes L area info b   its bytes; none where it is not sent
--   BlockLent                  what is asked of a block that is lent
--   block_reads                 how many bits of it a word reads
--   part_sum                    the sum of a part of the table at the ones of some bits
--   column_sum, row_sum          the remainder of the blocks of column word a, of row word a
--   bit_place, block_sum         the place of a word's bit in a block, and the remainder of two blocks by whether the word has columns of them
--   PartAdded                  a sum for each word is added: of a part of the table, at the ones of the word's bits
--   Powers s positions             the table has the powers of x that the positions of a word carry
-- Assumes nothing.
use Rattle.std.specs.Prelude.{◌≡◌, Bool, false, cond, List, [], ℕ, zero, suc, ◌+◌, ◌-◌, ◌*◌, ◌<◌, ltb, eqb, length, get_or, take, drop}
use Rattle.bch.specs.Polynomial.{◌⊕◌, Bits}
use Rattle.bch.specs.Powers.{xor_sum, PositionPowers}
use Rattle.staircase.specs.Design.{Params, word_length}
use Rattle.staircase.specs.System.{Contents}

-- "B0 is all zero and not sent. For odd L the block after the last is all zero and not sent."
unfoldable pub sent : ℕ → ℕ → Bool
sent L zero = false
sent L (suc b) = ltb b L

unfoldable pub block_bytes : ℕ → ℕ → List ℕ → ℕ → List ℕ
block_bytes L area info b = cond (sent L b) (take area (drop ((b - 1) * area) info)) []

-- "Unsent blocks are zero": a block of `area` bits, or none where it is not sent
abbrev pub BlockLent : List ℕ → ℕ → Type 0
BlockLent block area = (0 < length block → length block ≡ area) × Bits block

-- as many as it has columns
unfoldable pub block_reads : List ℕ → ℕ → ℕ
block_reads block size = cond (eqb (length block) 0) 0 size

-- the sum of w entries of the table, from entry `from` on, at the ones of b
unfoldable pub part_sum : List ℕ → ℕ → ℕ → (ℕ → ℕ) → ℕ
part_sum positions from w b = xor_sum w (λ j. b j * get_or positions (from + j) 0)

-- column a of the odd block and of the even one
unfoldable pub column_sum : List ℕ → ℕ → Contents → Contents → ℕ → ℕ
column_sum positions size odd even a = part_sum positions 0 size (λ j. odd (j * size + a)) ⊕ part_sum positions size size (λ j. even (j * size + a))

-- row a of the block before and of the odd one
unfoldable pub row_sum : List ℕ → ℕ → Contents → Contents → ℕ → ℕ
row_sum positions size before odd a = part_sum positions 0 size (λ j. before (a * size + j)) ⊕ part_sum positions size size (λ j. odd (a * size + j))

-- bit j of column a of a block of w columns, else of row a
unfoldable pub bit_place : Bool → ℕ → ℕ → ℕ → ℕ
bit_place column w a j = cond column (j * w + a) (a * w + j)

unfoldable pub block_sum : Bool → Bool → List ℕ → ℕ → Contents → Contents → ℕ → ℕ
block_sum columns columns' positions size first second a =
    part_sum positions 0 size (λ j. first (bit_place columns size a j)) ⊕ part_sum positions size size (λ j. second (bit_place columns' size a j))

-- `new` is `old` with the r entries of the table from entry `from` on added at the ones of b w a, for each word a of w
abbrev pub PartAdded : List ℕ → ℕ → ℕ → (ℕ → ℕ → ℕ → ℕ) → List ℕ → List ℕ → Type 0
PartAdded positions from r b old new =
    (length new ≡ length old) × ((a : ℕ) → a < length old → get_or new a 0 ≡ get_or old a 0 ⊕ part_sum positions from r (b (length old) a))

pub record Powers (s : Params) (positions : List ℕ) : Type 0 where
  pub long : length positions ≡ word_length s
  pub powers : PositionPowers s.g s.r positions
