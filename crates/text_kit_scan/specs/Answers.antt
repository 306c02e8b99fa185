-- What the answers say.
--   head_walk, line_walk          the walk that an answer tells
--   front_rule                   the two lines, and then rules 1 to 3
--   front_verdict, FrontIs       the verdict of the two lines' answer; its design and position are those of the text
--   rest_rule, rest_verdict       rule 11 for the rest from a position on; the verdict of an answer for it
--   RestParts                   the lines at the positions that an answer gives are right, and have the values of the rest
--   PartIs                      what an answer says of a line of names, of lines, and of the end of the text
--   TailIs                      the same for what follows the lists' lines
--   ListsAre                    the same for the lists of a text that ends behind them
-- Assumes nothing.
use Rattle.std.specs.Prelude.{ℕ, ◌≡◌, List, [], ◌∷◌, ◌++◌, Result, Ok, Err}
use Rattle.text_formats.specs.Format as format
use Rattle.text_formats.specs.Format.{Item, Format, end, read}
use Rattle.text_formats.specs.Items.{Walk, stuck, past, walk, values, Passes, seq, scan_at, bits_lines}
use Rattle.text.specs.Rules.{scan_rule, passed, values_of}
use Rattle.staircase.specs.Rules.{Verdict, ◌then◌, design_rules}
use Rattle.staircase.specs.Rules.Verdict.{accepted, refused}
use Rattle.design.specs.Answers.{Allowed}
use Rattle.text.specs.KitText.{tail_items, head_items, pair_lines, rest_format}
use Rattle.text.specs.KitReader.{head_number, head_rule}
use Rattle.text.specs.MakeKit.{lists_format}
use Rattle.design.specs.declared.Design.{Design}
use Rattle.answers.specs.declared.TextError.{TextError}
use Rattle.text_items.specs.declared.Broken.{Broken}
use Rattle.text_items.specs.Answers.{error_verdict}

abbrev pub head_walk : Result (ℕ × ℕ × ℕ × ℕ) Broken → Walk
head_walk (Ok (m, t, M, q)) = past (m ∷ t ∷ M ∷ []) q
head_walk (Err b) = stuck b.place

abbrev pub line_walk : Result (ℕ × ℕ × ℕ) Broken → Walk
line_walk (Ok (a, b, q)) = past (a ∷ b ∷ []) q
line_walk (Err b) = stuck b.place

-- ---- the two lines

-- "two lines (11 ..), then 1 to 3"
unfoldable pub front_rule : List ℕ → Verdict
front_rule s = head_rule s then design_rules (head_number s 0) (head_number s 1) (head_number s 2) 0

unfoldable pub front_verdict : Result (Design × ℕ) TextError → Verdict
front_verdict (Ok x) = accepted
front_verdict (Err e) = error_verdict 11 e

-- the design is that of the second line, and allowed; the position is the one after the two lines
unfoldable pub FrontIs : Result (Design × ℕ) TextError → List ℕ → Type 0
FrontIs (Ok (d, q)) s =
    (d.m ≡ head_number s 0) × (d.t ≡ head_number s 1) × (d.size ≡ head_number s 2) × (d.col ≡ 0) × Allowed d × (q ≡ passed (walk head_items s 0))
FrontIs (Err e) s = Unit

-- ---- the rest, for n = M × r

abbrev pub tail_format : ℕ → Format
tail_format n = seq (tail_items n) (end 0)

unfoldable pub rest_rule : ℕ → List ℕ → ℕ → Verdict
rest_rule n s at = scan_rule 11 (scan_at (rest_format n) s at)

unfoldable pub rest_verdict : Result (ℕ × ℕ) Broken → Verdict
rest_verdict (Ok x) = accepted
rest_verdict (Err b) = refused 11 b.place

-- The lists' lines at i and the rows' lines at j are right, and their values are those of the rest.
unfoldable pub RestParts : Result (ℕ × ℕ) Broken → ℕ → List ℕ → ℕ → Type 0
RestParts (Ok (i, j)) n s at =
    Passes (walk (pair_lines 0 n) s i)
    × Passes (walk (bits_lines n 0 n) s j)
    × (values_of (scan_at (rest_format n) s at) ≡ values (walk (pair_lines 0 n) s i) ++ values (walk (bits_lines n 0 n) s j))
RestParts (Err b) n s at = Unit

-- The lines at j are right, and their values are those of the whole, which has the format F; or the place where that goes wrong.
unfoldable pub PartIs : Format → List Item → Result ℕ Broken → List ℕ → ℕ → Type 0
PartIs F lines (Ok j) s at = Passes (walk lines s j) × (scan_at F s at ≡ read 0 (values (walk lines s j)))
PartIs F lines (Err b) s at = scan_at F s at ≡ format.refused b.place

-- the rows' lines
abbrev pub TailIs : Result ℕ Broken → ℕ → List ℕ → ℕ → Type 0
TailIs x n s at = PartIs (tail_format n) (bits_lines n 0 n) x s at

-- the lists' lines, of a text that ends behind them
abbrev pub ListsAre : Result ℕ Broken → ℕ → List ℕ → ℕ → Type 0
ListsAre x n s at = PartIs (lists_format n) (pair_lines 0 n) x s at
