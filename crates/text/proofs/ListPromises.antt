-- What `makekit` promises about the list texts that it reads, as the kit reader does about kit texts.
--   tidy_lists                     the format is clear
--   lists-stuck, lists_found       the rules, by the two lines
--   list_accepted                  a text is accepted exactly when it is a list text of a design that rules 1 to 3 let through
--   list_place_lines, list_place_rest   rule 11 and its place, "the longest start that some .. text shares": of a text that does not start with two lines,
--                                  and of one that starts with those of a design that rules 1 to 3 let through
--   list_rules                     refusals by rules 1 to 3 are those of the two lines' numbers, whatever follows
-- Assumes nothing.
use Prim.Native.Nat.{ℕ, ◌≤◌}
use mathlib.Core.Path.{◌≡◌, sym, ap, ◌∙◌}
use mathlib.Core.List.{List}
use mathlib.Core.Logic.{◌↔◌}
use native.Mathlib.Omega.{arith}
use Rattle.text_formats.specs.Format.{Longest, Scan, scan}
use Rattle.text_formats.specs.Items.{lits, stuck, walk}
use Rattle.text_formats.proofs.Spelling.{Tidy, tidy_append}
use Rattle.text_formats.proofs.Lines.{lines_tidy}
use Rattle.text.specs.Rules.{scan_rule}
use Rattle.staircase.specs.Rules.{Verdict, ◌then◌, design_rules}
use Rattle.staircase.specs.Rules.Verdict.{accepted, refused}
use Rattle.text.specs.KitText.{head_items, list_names, pair_line, pair_lines, ShortNumbers, StartsKit}
use Rattle.text.specs.KitReader.{head_number, Passing}
use Rattle.text.specs.MakeKit.{lists_items, list_format, ListText, lists_scan, lists_rule, scan_lists}
use Rattle.text.proofs.KitCounting.{tidy_pair_line}
use Rattle.text.proofs.KitTexts.{headed_rest}
use Rattle.text.proofs.TwoLines.{head_stuck}
use Rattle.text.proofs.KitJudged.{Found, shown, order_found}
use Rattle.text.proofs.Headed.{headed_accepted, headed_place_lines, headed_place_rest, headed_rules}

-- ---- the format and the rules

pub tidy_lists : (n : ℕ) → n ≤ 10000 → Tidy (lists_items n)
unfolding lists_items
tidy_lists n h = tidy_append (lits list_names) (pair_lines 0 n) (omega arith) (lines_tidy pair_line n 0 (omega arith) tidy_pair_line)

lists-stuck : (s : List ℕ) (q : ℕ) → walk head_items s 0 ≡ stuck q → scan_lists s ≡ refused 11 q
unfolding scan_lists
lists-stuck s q e = ap (λ (v : Verdict). v then design_rules (head_number s 0) (head_number s 1) (head_number s 2) 0 then lists_rule s) (head_stuck s q e)

lists_found : (s : List ℕ) (F : Found s) → scan_lists s ≡ (design_rules F.m F.t F.M 0 then scan_rule 11 (scan (list_format F.m F.t F.M) s))
unfolding scan_lists lists_rule lists_scan list_format
lists_found s F =
    let S = shown s F in
    let rest : lists_scan s ≡ scan (list_format F.m F.t F.M) s =
    rw (S.after, order_found s F) (sym (headed_rest s F.m F.t F.M F.q F.lines lists_items)) in
    ap (λ (v : Verdict). v then design_rules (head_number s 0) (head_number s 1) (head_number s 2) 0 then scan_rule 11 (lists_scan s)) S.rule
    ∙ ap (λ (x : Scan). design_rules (head_number s 0) (head_number s 1) (head_number s 2) 0 then scan_rule 11 x) rest
    ∙ rw (S.first, S.second, S.third)

-- ---- the promises

pub list_accepted : (s : List ℕ) → (scan_lists s ≡ accepted) ↔ ListText Passing s
unfolding list_format
list_accepted = headed_accepted lists_items tidy_lists scan_lists lists-stuck lists_found

pub list_place_lines : (s : List ℕ) → ((m t M : ℕ) → StartsKit m t M s → ⊥) → (k : ℕ) → (scan_lists s ≡ refused 11 k) ↔ Longest (ListText ShortNumbers) s k
unfolding list_format
list_place_lines = headed_place_lines lists_items tidy_lists scan_lists lists-stuck lists_found

pub list_place_rest : (s : List ℕ) (m t M : ℕ) → StartsKit m t M s → Passing m t M
    → (k : ℕ) → (scan_lists s ≡ refused 11 k) ↔ ((ListText Passing s → ⊥) × Longest (ListText Passing) s k)
unfolding list_format
list_place_rest = headed_place_rest lists_items tidy_lists scan_lists lists-stuck lists_found

pub list_rules : (s : List ℕ) (m t M n k : ℕ) → StartsKit m t M s → design_rules m t M 0 ≡ refused n k → scan_lists s ≡ refused n k
unfolding list_format
list_rules = headed_rules lists_items tidy_lists scan_lists lists-stuck lists_found
