-- Document 01, "Kit text": the format, for a design.
--   head_items, head_format    the line `m t M` and the line of the three numbers, "where any numbers of one to four digits will do"
--   head_bytes                the two lines of a design, as bytes
--   pair_line, pair_lines      the lines of the lists: `place`, an entry of the self list, an entry of the parity list
--   kit_body n                what follows the two lines, for n = M × r
--   rest_format n, kit_format m t M   the same as a format, and the kit texts of a design; its two lines are fixed bytes
--   KitText D                the kit texts of the designs in D
--   ShortNumbers             "any numbers of one to four digits"
--   StartsKit m t M          the texts that start with the two lines of these numbers
--   kit_values, kit_bytes      the values of a kit, and the kit text that shows them
-- Assumes nothing.
use Rattle.std.specs.Prelude.{ℕ, ◌*◌, ◌<◌, ◌≡◌, get_or, List, [], ◌∷◌, ◌++◌}
use Rattle.text_formats.specs.Format.{Item, byte, num, Format, end, dec, Text}
use Rattle.text_formats.specs.Items.{lits, seq, spell, lines_from, bits_lines}
use Rattle.staircase.specs.Lists.{tabulate, concat}
use Rattle.staircase.specs.System.{inverse_entry}
use Rattle.staircase.specs.Rules.{entries}

-- ---- the two lines

-- `m t M` and a line feed
abbrev pub names : List ℕ
names = 109 ∷ 32 ∷ 116 ∷ 32 ∷ 77 ∷ 10 ∷ []

-- the two numbers with which either line of values ends
abbrev pub two_numbers : List Item
two_numbers = num ∷ byte 32 ∷ num ∷ byte 10 ∷ []

abbrev pub head_items : List Item
head_items = lits names ++ (num ∷ byte 32 ∷ two_numbers)

abbrev pub head_format : Format
head_format = seq head_items (end 0)

-- the two lines of a design
abbrev pub head_bytes : ℕ → ℕ → ℕ → List ℕ
head_bytes m t M = spell head_items (m ∷ t ∷ M ∷ [])

-- ---- the rest

-- `place self parity` and a line feed
abbrev pub list_names : List ℕ
list_names = 112 ∷ 108 ∷ 97 ∷ 99 ∷ 101 ∷ 32 ∷ 115 ∷ 101 ∷ 108 ∷ 102 ∷ 32 ∷ 112 ∷ 97 ∷ 114 ∷ 105 ∷ 116 ∷ 121 ∷ 10 ∷ []

-- `row inverse` and a line feed
abbrev pub row_names : List ℕ
row_names = 114 ∷ 111 ∷ 119 ∷ 32 ∷ 105 ∷ 110 ∷ 118 ∷ 101 ∷ 114 ∷ 115 ∷ 101 ∷ 10 ∷ []

-- what follows the place in a line of the lists
abbrev pub pair_tail : List Item
pair_tail = byte 32 ∷ two_numbers

-- "First columns run from 0": the line of place p, and the lines p to p + n - 1
unfoldable pub pair_line : ℕ → List Item
pair_line p = lits (dec p) ++ pair_tail

abbrev pub pair_lines : ℕ → ℕ → List Item
pair_lines p n = lines_from pair_line p n

-- "`inverse` has M × r characters, column 0 first"
abbrev pub tail_items : ℕ → List Item
tail_items n = lits row_names ++ bits_lines n 0 n

unfoldable pub kit_body : ℕ → List Item
kit_body n = lits list_names ++ (pair_lines 0 n ++ tail_items n)

abbrev pub rest_format : ℕ → Format
rest_format n = seq (kit_body n) (end 0)

unfoldable pub kit_format : ℕ → ℕ → ℕ → Format
kit_format m t M = seq (lits (head_bytes m t M)) (rest_format (M * (m * t)))

abbrev pub KitText : (ℕ → ℕ → ℕ → Type 0) → List ℕ → Type 0
KitText D s = (m : ℕ) × (t : ℕ) × (M : ℕ) × D m t M × Text (kit_format m t M) s

-- "any numbers of one to four digits"
abbrev pub ShortNumbers : ℕ → ℕ → ℕ → Type 0
ShortNumbers m t M = (m < 10000) × (t < 10000) × (M < 10000)

-- "two lines (11, where any numbers of one to four digits will do)", and whatever follows
pub record StartsKit (m t M : ℕ) (s : List ℕ) : Type 0 where
  pub m-short : m < 10000
  pub t-short : t < 10000
  pub M-short : M < 10000
  pub rest : List ℕ
  pub text : s ≡ head_bytes m t M ++ rest

-- ---- the text of a kit, which the kit checker and the encoder read by `entries` and `inverse_entry`

-- the lists' entries in pairs, and then the inverse row by row
unfoldable pub kit_values : ℕ → List ℕ → List ℕ → List ℕ → List ℕ
kit_values n self parity w =
    concat n (λ p. get_or (entries n self) p 0 ∷ get_or (entries n parity) p 0 ∷ []) ++ concat n (λ i. tabulate n (inverse_entry w n i))

unfoldable pub kit_bytes : ℕ → ℕ → ℕ → List ℕ → List ℕ → List ℕ → List ℕ
kit_bytes m t M self parity w = head_bytes m t M ++ spell (kit_body (M * (m * t))) (kit_values (M * (m * t)) self parity w)
