-- What `makekit` prints, for every standard input: a list text, "the first part of a kit text (the lines up to and with the last list entry)", is made a
-- whole kit text, or refused. Document 02 names no program; docs/DECISIONS.md says how limits and places were chosen.
--   lists_items n, lists_format n      what follows the two lines in a list text, for n = M × r, and as a format
--   list_format, ListText             the list texts of a design, and those of some designs
--   lists_scan, lists_rule             the scan of what follows the two lines, and rule 11 for it
--   scan_lists                        the rules on a list text
--   self_shown, parity_shown           the lists that a list text shows
--   text_rule                         rule 13 for the kit text that would be printed: no program reads a longer one
--   make_kit_call                      the call that `makekit` makes
--   make_kit_verdict, make_kit_output    its rules, and what it prints
--   MakeKitPlace                     rule 11's place of it; `makekit_place` in proofs/MakeKitPlace.antt shows it
-- Assumes nothing.
use Rattle.std.specs.Prelude.{◌≡◌, ◌↔◌, List, ◌++◌, ℕ, ◌*◌, ◌≤◌, ltb, length, replicate}
use Rattle.text_formats.specs.Format.{Item, Format, Text, Longest, Scan, end}
use Rattle.text_formats.specs.Items.{lits, seq, walk, scan_at}
use Rattle.staircase.specs.Design.{Params, order}
use Rattle.staircase.specs.System.{row_bytes}
use Rattle.staircase.specs.Rules.{Verdict, ◌then◌, refuse, design_rules}
use Rattle.staircase.specs.Rules.Verdict.{refused}
use Rattle.staircase.specs.Maker.{Made, make_work, make_call}
use Rattle.text.specs.Rules.{scan_rule, passed, values_of}
use Rattle.text.specs.KitText.{head_items, head_bytes, list_names, pair_lines, ShortNumbers, StartsKit, kit_bytes}
use Rattle.text.specs.KitReader.{head_number, head_rule, kit_params, Passing, firsts, seconds, packs}
use Rattle.text.specs.KitWriter.{text_length}
use Rattle.text.specs.Programs.{refusal_text, most-input, printed}

-- ---- a list text: the two lines of a kit text, and the lines of its lists

unfoldable pub lists_items : ℕ → List Item
lists_items n = lits list_names ++ pair_lines 0 n

abbrev pub lists_format : ℕ → Format
lists_format n = seq (lists_items n) (end 0)

-- its two lines are fixed bytes, as a kit text's are
unfoldable pub list_format : ℕ → ℕ → ℕ → Format
list_format m t M = seq (lits (head_bytes m t M)) (lists_format (M * (m * t)))

abbrev pub ListText : (ℕ → ℕ → ℕ → Type 0) → List ℕ → Type 0
ListText D s = (m : ℕ) × (t : ℕ) × (M : ℕ) × D m t M × Text (list_format m t M) s

unfoldable pub lists_scan : List ℕ → Scan
lists_scan s = scan_at (lists_format (order (kit_params s))) s (passed (walk head_items s 0))

unfoldable pub lists_rule : List ℕ → Verdict
lists_rule s = scan_rule 11 (lists_scan s)

-- as the reader of kit text: "two lines (11 ..), then 1 to 3 .., then the rest (11)"
unfoldable pub scan_lists : List ℕ → Verdict
scan_lists s = head_rule s then design_rules (head_number s 0) (head_number s 1) (head_number s 2) 0 then lists_rule s

unfoldable pub self_shown : List ℕ → List ℕ
self_shown s = packs (firsts (values_of (lists_scan s)))

unfoldable pub parity_shown : List ℕ → List ℕ
parity_shown s = packs (seconds (values_of (lists_scan s)))

-- ---- the program

-- "13 input: 1 kit, 2 blocks; a program's input above 32,768 bytes": the kit text would be `frame`'s kit
unfoldable pub text_rule : List ℕ → Verdict
text_rule s = refuse (ltb most-input (text_length (head_number s 0) (head_number s 1) (head_number s 2) (self_shown s) (parity_shown s))) 13 1

-- the inverse that it lends is zero
unfoldable pub make_kit_call : List ℕ → Made
make_kit_call s =
    let p : Params = kit_params s in
    make_call (head_number s 0) (head_number s 1) (head_number s 2) 0 (self_shown s) (parity_shown s) (replicate (order p * row_bytes (order p)) 0) (make_work p)

-- 13 for its input, the rules on a list text, 13 for the kit text to be printed, then the maker's
unfoldable pub make_kit_verdict : List ℕ → Verdict
make_kit_verdict s =
    refuse (ltb most-input (length s)) 13 2 then head_rule s then design_rules (head_number s 0) (head_number s 1) (head_number s 2) 0 then lists_rule s
    then text_rule s then (make_kit_call s).verdict

unfoldable pub make_kit_output : List ℕ → List ℕ
make_kit_output s =
    printed (make_kit_verdict s)
    (kit_bytes (head_number s 0) (head_number s 1) (head_number s 2) (self_shown s) (parity_shown s) (make_kit_call s).inverse)

-- ---- the place

-- "length of the longest start that some kit text shares", said of list texts; of an input that rule 13 lets through
pub record MakeKitPlace (s : List ℕ) : Type 0 where
  -- a text that does not start with two lines: whatever its three numbers are, it goes wrong within them
  pub lines : length s ≤ most-input → ((m t M : ℕ) → StartsKit m t M s → ⊥) → (k : ℕ) → (make_kit_verdict s ≡ refused 11 k) ↔ Longest (ListText ShortNumbers) s k
  -- a text that starts with those of a design that rules 1 to 3 let through
  pub rest : length s ≤ most-input → (m t M : ℕ) → StartsKit m t M s → Passing m t M
      → (k : ℕ) → (make_kit_verdict s ≡ refused 11 k) ↔ ((ListText Passing s → ⊥) × Longest (ListText Passing) s k)
  -- one that starts with those of a design that they refuse
  pub rules : length s ≤ most-input → (m t M : ℕ) → StartsKit m t M s → (n k : ℕ) → design_rules m t M 0 ≡ refused n k → make_kit_verdict s ≡ refused n k
  -- "A refusal prints `refused place` and the two."
  pub prints : (n k : ℕ) → make_kit_verdict s ≡ refused n k → make_kit_output s ≡ refusal_text n k
