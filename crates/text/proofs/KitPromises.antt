-- What the kit reader promises about texts.
--   kit-accepted                    a text is accepted exactly when it is the kit text of a design that rules 1 to 3 let through
--   kit_cases, kit-once             a text starts with two lines or not, and with one design's alone
--   kit_place_lines, kit_place_rest   rule 11 and its place, "the longest start that some kit text shares": of a text that does not start with two
--                                   lines, and of one that starts with those of a design that rules 1 to 3 let through
--   kit_ruled, kit-rules            refusals by rules 1 to 3 are those of the two lines' numbers, whatever follows
--   kit-order-small                 an accepted text has at least n² bytes, n being M × r
--   kit-read-scan, kit-read         with slices of the right lengths the reader's verdict is the scan's, and an accepted text fills them
--   kit_renders                     an accepted text is the kit text rendered from what the reader leaves
-- Assumes nothing.
use Prim.Native.Nat.{ℕ, ◌+◌, ◌*◌, ◌≤◌}
use mathlib.Core.Path.{◌≡◌, sym, ap, ◌∙◌}
use mathlib.Core.List.{List, ◌++◌}
use mathlib.Core.Logic.{◌⊎◌, inl, inr, ◌↔◌}
use native.Mathlib.Omega.{arith}
use lib.ListN.{length, drop, length-append}
use Rattle.text_formats.specs.Format as format
use Rattle.text_formats.specs.Format.{Longest, Scan, scan}
use Rattle.text_formats.specs.Items.{stuck, walk, spell, bits_lines}
use Rattle.text_formats.proofs.Takes.{fit-long}
use Rattle.text.specs.Rules.{scan_rule, kept}
use Rattle.staircase.specs.Design.{order}
use Rattle.staircase.specs.System.{row_bytes}
use Rattle.staircase.specs.Rules.{Verdict, ◌then◌, design_rules, list_lengths, kit_lengths}
use Rattle.staircase.specs.Rules.Verdict.{accepted, refused}
use Rattle.staircase.proofs.Rules.{then_accepted, length-accepted}
use Rattle.text.specs.KitText.{head_items, head_bytes, list_names, row_names, pair_lines, kit_body, kit_format, KitText, ShortNumbers, StartsKit, kit_bytes}
use Rattle.text.specs.KitReader.{head_number, kit_params, head_rule, body_rule, scan_kit, self_of, parity_of, inverse_of, read_verdict, read_kit_call, Passing}
use Rattle.text.proofs.KitCounting.{rows-count}
use Rattle.text.proofs.KitTexts.{head_passed, tidy_body}
use Rattle.text.proofs.KitJudged.{Found, two_lines, scan-stuck, shown, scan_found}
use Rattle.text.proofs.Headed.{headed_cases, headed_once, headed_accepted, headed_place_lines, headed_place_rest, headed_rules}
use Rattle.text.proofs.KitTold.{kit-told, rendered}

-- ---- accepted texts

-- A text is accepted exactly when it is a kit text of a design that rules 1 to 3 let through.
pub kit-accepted : (s : List ℕ) → (scan_kit s ≡ accepted → KitText Passing s) × (KitText Passing s → scan_kit s ≡ accepted)
unfolding kit_format
kit-accepted = headed_accepted kit_body tidy_body scan_kit scan-stuck scan_found

-- ---- refused texts

-- A text starts with two lines, or it does not; and with those of one design alone.
pub kit_cases : (s : List ℕ) → ((m t M : ℕ) → StartsKit m t M s → ⊥) ⊎ ((m : ℕ) × (t : ℕ) × (M : ℕ) × StartsKit m t M s)
kit_cases = headed_cases

pub kit-once : (s : List ℕ) (m t M m₂ t₂ M₂ : ℕ) → StartsKit m t M s → StartsKit m₂ t₂ M₂ s → (m ≡ m₂) × (t ≡ t₂) × (M ≡ M₂)
kit-once = headed_once

-- A text that does not start with two lines is refused by rule 11, and its place is the length of the longest start that some kit text shares, whatever
-- its three numbers are: it goes wrong within the two lines.
pub kit_place_lines : (s : List ℕ) → ((m t M : ℕ) → StartsKit m t M s → ⊥) → (k : ℕ) → (scan_kit s ≡ refused 11 k) ↔ Longest (KitText ShortNumbers) s k
unfolding kit_format
kit_place_lines = headed_place_lines kit_body tidy_body scan_kit scan-stuck scan_found

-- A text that starts with the two lines of a design that rules 1 to 3 let through is refused by rule 11 exactly where it is no kit text of such a design,
-- and its place is the length of the longest start that some kit text of such a design shares.
pub kit_place_rest : (s : List ℕ) (m t M : ℕ) → StartsKit m t M s → Passing m t M
    → (k : ℕ) → (scan_kit s ≡ refused 11 k) ↔ ((KitText Passing s → ⊥) × Longest (KitText Passing) s k)
unfolding kit_format
kit_place_rest = headed_place_rest kit_body tidy_body scan_kit scan-stuck scan_found

-- A refusal by another rule is that of rules 1 to 3 for the numbers of the two lines with which the text starts.
pub kit_ruled : (s : List ℕ) (n k : ℕ) → scan_kit s ≡ refused n k → (n ≡ 11 → ⊥)
    → (r : List ℕ) × (s ≡ head_bytes (head_number s 0) (head_number s 1) (head_number s 2) ++ r)
    × (design_rules (head_number s 0) (head_number s 1) (head_number s 2) 0 ≡ refused n k)
unfolding scan_rule
kit_ruled s n k e h = go (two_lines s)
  where
    other : (x : Scan) → scan_rule 11 x ≡ refused n k → n ≡ 11
    other (format.refused j) f = cc
    other (format.read L vs) f = let z : ◌≡◌ {A = ℕ} 0 1 = cc in absurd (omega arith)

    rule : (v : Verdict) (x : Scan) → (v then scan_rule 11 x) ≡ refused n k → v ≡ refused n k
    rule accepted x f = absurd (h (other x f))
    rule (refused i j) x f = f

    go : ((q : ℕ) × (walk head_items s 0 ≡ stuck q)) ⊎ Found s
        → (r : List ℕ) × (s ≡ head_bytes (head_number s 0) (head_number s 1) (head_number s 2) ++ r)
        × (design_rules (head_number s 0) (head_number s 1) (head_number s 2) 0 ≡ refused n k)
    go (inl (q, f)) = let g = scan-stuck s q f in let z : n ≡ 11 = cc in absurd (h z)
    go (inr F) =
        let S = shown s F in (
          drop F.q s,
          rw (S.first, S.second, S.third) (head_passed s F.m F.t F.M F.q F.lines).spelt,
          rw (S.first, S.second, S.third) (rule (design_rules F.m F.t F.M 0) (scan (kit_format F.m F.t F.M) s) (sym (scan_found s F) ∙ e)),
        )

-- And a text that starts with two lines whose numbers rules 1 to 3 refuse is refused so, whatever follows.
pub kit-rules : (s : List ℕ) (m t M n k : ℕ) → StartsKit m t M s → design_rules m t M 0 ≡ refused n k → scan_kit s ≡ refused n k
unfolding kit_format
kit-rules = headed_rules kit_body tidy_body scan_kit scan-stuck scan_found

-- ---- the length of an accepted text

-- Each of the M × r rows of an accepted text shows M × r bits, so (M × r)² is at most the text's length.
pub kit-order-small : (s : List ℕ) → scan_kit s ≡ accepted → order (kit_params s) * order (kit_params s) ≤ length s
kit-order-small s e =
    let T = kit-told s e in
    let n : ℕ = order (kit_params s) in
    let a : List ℕ = head_bytes (head_number s 0) (head_number s 1) (head_number s 2) in
    let p : List ℕ = spell (pair_lines 0 n) T.ps in
    let r : List ℕ = spell (bits_lines n 0 n) T.rs in
    let c : length T.rs ≡ n * n = rows-count n n 0 T.rs T.rows_fit in
    omega (
      arith,
      c,
      fit-long (bits_lines n 0 n) T.rs T.rows_fit,
      ap length T.text,
      length-append a (list_names ++ (p ++ (row_names ++ r))),
      length-append list_names (p ++ (row_names ++ r)),
      length-append p (row_names ++ r),
      length-append row_names r,
    )

-- ---- the reader

-- With slices of the right lengths the reader's verdict is the scan's: a program that scans a text first can lend exactly what the reader needs.
pub kit-read-scan : (s own parity w : List ℕ) → length own ≡ 2 * order (kit_params s) → length parity ≡ 2 * order (kit_params s)
    → length w ≡ order (kit_params s) * row_bytes (order (kit_params s)) → read_verdict s own parity w ≡ scan_kit s
unfolding read_verdict scan_kit kit_lengths list_lengths
kit-read-scan s own parity w a b c =
    let n : ℕ = order (kit_params s) in
    let e : kit_lengths (kit_params s) own parity w ≡ accepted =
    then_accepted (then_accepted (length-accepted 1 (length own) (2 * n) a) (length-accepted 2 (length parity) (2 * n) b))
    (length-accepted 3 (length w) (n * row_bytes n) c)
    in
    ap (λ (v : Verdict). head_rule s then design_rules (head_number s 0) (head_number s 1) (head_number s 2) 0 then v then body_rule s) e

-- An accepted text fills them with its lists and its inverse.
pub kit-read : (s own parity w : List ℕ) → length own ≡ 2 * order (kit_params s) → length parity ≡ 2 * order (kit_params s)
    → length w ≡ order (kit_params s) * row_bytes (order (kit_params s)) → scan_kit s ≡ accepted
    → ((read_kit_call s own parity w).verdict ≡ accepted) × ((read_kit_call s own parity w).self ≡ self_of s) × ((read_kit_call s own parity w).parity ≡ parity_of s)
    × ((read_kit_call s own parity w).inverse ≡ inverse_of s)
unfolding read_kit_call kept
kit-read s own parity w a b c e =
    let v : read_verdict s own parity w ≡ accepted = kit-read-scan s own parity w a b c ∙ e in (
      v,
      ap (λ (x : Verdict). kept x (self_of s) own) v,
      ap (λ (x : Verdict). kept x (parity_of s) parity) v,
      ap (λ (x : Verdict). kept x (inverse_of s) w) v,
    )

-- ---- the text that the lists and the inverse show

-- An accepted text is the kit text of its design, its lists and its inverse: what the kit checker and the encoder read is what the text shows.
pub kit_renders : (s : List ℕ) → scan_kit s ≡ accepted
    → s ≡ kit_bytes (head_number s 0) (head_number s 1) (head_number s 2) (self_of s) (parity_of s) (inverse_of s)
unfolding kit_bytes
kit_renders s e = rendered s (order (kit_params s)) (kit-told s e)
