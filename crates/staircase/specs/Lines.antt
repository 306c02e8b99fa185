-- A frame's words as lines, which the decoder goes through: line 2i has the row words of the group that i groups precede, line 2i + 1 its column
-- words. Line k has bits of blocks k and k + 1 (block 0 is B0), so a bit of block b, b from 1, stands in line b - 1, in the second stretch of its
-- word, and in line b, in the first.
--   even               the kind of a line: row words for an even number
--   line_sites          the sites of word a of line k
--   words_from          the words of some lines, from a line on
--   word_count, frame_word   the words of a frame by their numbers, k × M + a
--   Incidence          a line, a word of it and a position of that: where a word has a bit
--   along, partner     from the place of a redundancy bit in its row word to that in its column word, and back
--   crossing           the other word that has the bit at a position of a word, and the position
-- Assumes nothing.
use Rattle.std.specs.Prelude.{Bool, false, not, cond, List, ℕ, ◌+◌, ◌-◌, ◌*◌, ◌/◌, ◌%◌, eqb, ltb, get_or}
use Rattle.bch.specs.Mirror.{backwards}
use Rattle.staircase.specs.Lists.{tabulate, concat}
use Rattle.staircase.specs.Design.{Params, Interleavers, word_length, order}
use Rattle.staircase.specs.System.{preimage}
use Rattle.staircase.specs.Frame.{Site, Word, word, row_at, column_at, groups, row_sites, column_sites}

abbrev pub even : ℕ → Bool
even k = eqb (k % 2) 0

unfoldable pub line_sites : Params → Interleavers → ℕ → ℕ → ℕ → List Site
line_sites s l L k a = cond (even k) (row_sites s l L (k / 2) a) (column_sites s L (k / 2) a)

-- word a of line k, in its code
unfoldable pub line_word : Params → Interleavers → ℕ → ℕ → ℕ → Word
line_word s l L k a = cond (even k) (row_at s l L (k / 2) a) (column_at s L (k / 2) a)

-- of n lines from line k on
abbrev pub words_from : Params → Interleavers → ℕ → ℕ → ℕ → List Word
words_from s l L k n = concat n (λ i. tabulate s.M (line_word s l L (k + i)))

-- ---- As code reads them, in one code: a word of the mirrored code backwards, which is one of the row code (`line_alike` in proofs/Turned.antt)

-- the words of line k are in the mirrored code
unfoldable pub turned : Params → ℕ → Bool
turned s k = cond (even k) false (not (eqb s.col 0))

unfoldable pub read_sites : Params → Interleavers → ℕ → ℕ → ℕ → List Site
read_sites s l L k a = cond (turned s k) (backwards (line_sites s l L k a)) (line_sites s l L k a)

-- from a position of a word as it is read to that of the word, and back
unfoldable pub turn : Params → ℕ → ℕ → ℕ
turn s k p = cond (turned s k) (word_length s - 1 - p) p

abbrev pub read_from : Params → Interleavers → ℕ → ℕ → ℕ → List (List Site)
read_from s l L k n = concat n (λ i. tabulate s.M (read_sites s l L (k + i)))

abbrev pub word_count : Params → ℕ → ℕ
word_count s L = 2 * groups L * s.M

abbrev pub frame_word : Params → Interleavers → ℕ → ℕ → Word
frame_word s l L w = word s (read_sites s l L (w / s.M) (w % s.M))

pub record Incidence : Type 0 where
  pub line : ℕ
  pub word : ℕ
  pub position : ℕ

abbrev pub incidence : ℕ → ℕ → ℕ → Incidence
incidence k a p = record { line = k; word = a; position = p }

-- where a list sends a place; and back, the place that it sends there
abbrev pub along : List ℕ → ℕ → Bool → ℕ → ℕ
along list n forth q = cond forth (get_or list q 0) (preimage list n q)

-- Places of X and then of Q, column by column, counted on as those of one matrix, and so those of Y and then of P: from a place of the first to that
-- of the same bit in the second (forth, for row words), and back (for column words).
unfoldable pub partner : Params → Interleavers → Bool → ℕ → ℕ
partner s l forth q =
    let n : ℕ = order s in
    cond (ltb q n) (along l.self n forth q) (n + along l.parity n forth (q - n))

-- Word a of line k has at position p of its first stretch what word p of line k - 1 has at position a of its second; a bit of the redundancy stands
-- in the group's other line.
unfoldable pub crossing : Params → Interleavers → ℕ → ℕ → ℕ → Incidence
crossing s l k a p =
    let q : ℕ = partner s l (even k) ((p - 2 * s.M) * s.M + a) in
    cond (ltb p s.M) (incidence (k - 1) p (s.M + a))
    (cond (ltb p (2 * s.M)) (incidence (k + 1) (p - s.M) a)
    (incidence (cond (even k) (k + 1) (k - 1)) (q % s.M) (2 * s.M + q / s.M)))

-- the same with positions of words as they are read
unfoldable pub read_crossing : Params → Interleavers → ℕ → ℕ → ℕ → Incidence
read_crossing s l k a p =
    let c : Incidence = crossing s l k a (turn s k p) in
    incidence c.line c.word (turn s c.line c.position)
