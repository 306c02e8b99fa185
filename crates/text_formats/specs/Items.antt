-- Lists of items: what they spell, how they are read at a position of a text, and the lines of a number and bits.
--   lits, bits               fixed bytes; n bits
--   lines_from                lines that each have a number, from a number on
--   fields                   the rest of a line behind its number: runs of bits, each behind a space, and the line feed
--   bits_line, bits_lines      a line of a number and n bits, and such lines
--   seq                      the format of items and what follows them
--   spell, Fit, Spells       the bytes that items with given values make
--   Walk, walk               reads items at a position: their values and the position after them, or the place where they go wrong
--   onward, values, Passes   going on after a walk; its values; whether it passes
--   scan_at, verdict          the scan of a format from a position on, places counted from the start of the text; a scan without its values
-- Assumes nothing.
use Rattle.std.specs.Prelude.{ℕ, zero, suc, ◌+◌, ◌%◌, ◌<◌, ◌≡◌, List, [], ◌∷◌, ◌++◌, drop, replicate}
use Rattle.text_formats.specs.Format.{Item, byte, num, bit, Piece, none, got, item, Format, ◌▷◌, dec, Scan, refused, read, scan}

-- ---- lists of items

abbrev pub lits : List ℕ → List Item
lits [] = []
lits (b ∷ bs) = byte b ∷ lits bs

abbrev pub bits : ℕ → List Item
bits n = replicate n bit

-- The lines of the numbers p to p + k - 1, by a rule for the line of a number.
unfoldable pub lines_from : (ℕ → List Item) → ℕ → ℕ → List Item
lines_from line p zero = []
lines_from line p (suc k) = line p ++ lines_from line (suc p) k

-- "one space between, a line feed after each line": behind the number of a line, runs of bits, each behind a space, and the line feed.
abbrev pub fields : List ℕ → List Item
fields [] = byte 10 ∷ []
fields (n ∷ ns) = (byte 32 ∷ bits n) ++ fields ns

-- The line of the number p and n bits.
unfoldable pub bits_line : ℕ → ℕ → List Item
bits_line n p = lits (dec p) ++ fields (n ∷ [])

abbrev pub bits_lines : ℕ → ℕ → ℕ → List Item
bits_lines n p k = lines_from (bits_line n) p k

-- The items, and then the format.
abbrev pub seq : List Item → Format → Format
seq [] F = F
seq (i ∷ is) F = i ▷ seq is F

-- ---- what they spell

-- The bytes that items with these values make: of a bit the character `0` or `1`, of any other number in its place that of its last bit.
abbrev pub spell : List Item → List ℕ → List ℕ
spell [] vs = []
spell (byte b ∷ is) vs = b ∷ spell is vs
spell (num ∷ is) [] = []
spell (num ∷ is) (v ∷ vs) = dec v ++ spell is vs
spell (bit ∷ is) [] = []
spell (bit ∷ is) (v ∷ vs) = (48 + v % 2) ∷ spell is vs

-- As many values as the items take, each in its range.
abbrev pub Fit : List Item → List ℕ → Type 0
Fit [] [] = Unit {0}
Fit [] (v ∷ vs) = ⊥
Fit (byte b ∷ is) vs = Fit is vs
Fit (num ∷ is) [] = ⊥
Fit (num ∷ is) (v ∷ vs) = (v < 10000) × Fit is vs
Fit (bit ∷ is) [] = ⊥
Fit (bit ∷ is) (v ∷ vs) = (v < 2) × Fit is vs

-- s is a text of these items with these values.
abbrev pub Spells : List Item → List ℕ → List ℕ → Type 0
Spells is vs s = Fit is vs × (s ≡ spell is vs)

-- ---- reading them at a position

-- What is found: the place where they go wrong, or their values and the position after them.
pub data Walk : Type 0 where
  stuck : ℕ → Walk
  past : List ℕ → ℕ → Walk

-- What is found behind the values ws.
abbrev pub prep : List ℕ → Walk → Walk
prep ws (stuck q) = stuck q
prep ws (past us q) = past (ws ++ us) q

-- What is found after the piece at the position `at`.
abbrev pub stride : Piece → ℕ → (ℕ → Walk) → Walk
stride none at k = stuck at
stride (got ws n) at k = prep ws (k (at + n))

unfoldable pub walk : List Item → List ℕ → ℕ → Walk
walk [] s at = past [] at
walk (i ∷ is) s at = stride (item i (drop at s)) at (λ q. walk is s q)

-- Going on after what was found.
abbrev pub onward : Walk → (ℕ → Walk) → Walk
onward (stuck q) k = stuck q
onward (past ws q) k = prep ws (k q)

abbrev pub values : Walk → List ℕ
values (stuck q) = []
values (past ws q) = ws

abbrev pub Passes : Walk → Type 0
Passes (stuck q) = ⊥
Passes (past ws q) = Unit {0}

-- ---- the scan from a position on

-- A scan's places, counted from the start of a text that `at` bytes precede.
abbrev pub moved : ℕ → Scan → Scan
moved at (refused k) = refused (at + k)
moved at (read l vs) = read l vs

unfoldable pub scan_at : Format → List ℕ → ℕ → Scan
scan_at F s at = moved at (scan F (drop at s))

-- A scan without its values.
abbrev pub verdict : Scan → Scan
verdict (refused k) = refused k
verdict (read l vs) = read l []
