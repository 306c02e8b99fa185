-- What `makekit` prints, by the first rule that refuses, and how long a kit's text is.
--   long-input                       rule 13 for the input
--   front-refused                    the two lines, and rules 1 to 3
--   lists-refused                    the lists' lines
--   behind-lists                     the rules behind the lists
--   lists-accepted .. parity-values  the lists that a list text shows, by the values of its lines
--   rows-below                       a kit's text is longer than its inverse has entries
-- Assumes nothing.
use mathlib.Core.Path.{◌≡◌, refl, ap, ◌∙◌}
use mathlib.Core.List.{List, []}
use Prim.Native.Nat.{ℕ, zero, suc, ◌*◌, ◌≤◌, ◌<◌}
use native.Mathlib.Omega.{arith}
use borrow.Author.Tests.{lt-ltb, le-ltb}
use lib.Dec.{ltb}
use lib.ListN.{length, length-append}
use Rattle.text_formats.specs.Format.{read}
use Rattle.staircase.specs.Lists.{concat}
use Rattle.staircase.specs.Rules.{Verdict, ◌then◌, refuse, design_rules}
use Rattle.staircase.specs.Rules.Verdict.{accepted, refused}
use Rattle.text.specs.Rules.{scan_rule, values_of}
use Rattle.text.specs.KitText.{kit_bytes}
use Rattle.text.specs.KitSpelled.{row_text, rows_text}
use Rattle.text.specs.KitReader.{head_number, head_rule, firsts, seconds, packs}
use Rattle.text.specs.KitWriter.{text_length}
use Rattle.text.specs.Programs.{refusal_text, most-input, printed}
use Rattle.text.specs.MakeKit.{lists_scan, lists_rule, self_shown, parity_shown, text_rule, make_kit_call, make_kit_verdict, make_kit_output}
use Rattle.text.proofs.Programs.{then_assoc, then_refused, then_on}
use Rattle.text.proofs.KitSpelled.{row-length, length_parts}

-- ---- the rules

module _ (s : List ℕ) where
  abbrev input : Verdict
  input = refuse (ltb most-input (length s)) 13 2

  abbrev design : Verdict
  design = design_rules (head_number s 0) (head_number s 1) (head_number s 2) 0

  abbrev call : Verdict
  call = text_rule s then (make_kit_call s).verdict

  abbrev text : List ℕ
  text = kit_bytes (head_number s 0) (head_number s 1) (head_number s 2) (self_shown s) (parity_shown s) (make_kit_call s).inverse

  pub long-input : most-input < length s → make_kit_output s ≡ refusal_text 13 2
  unfolding make_kit_output make_kit_verdict printed
  long-input h =
      ap (λ (v : Verdict). printed v text)
      (then_refused input (head_rule s then design then lists_rule s then call) 13 2 (simp (lt-ltb most-input (length s) h)))

  module _ (short : length s ≤ most-input) where
    input-accepted : input ≡ accepted
    input-accepted = simp (le-ltb most-input (length s) short)

    behind-front : (v : Verdict) → (head_rule s then design) ≡ v → make_kit_output s ≡ printed (v then lists_rule s then call) text
    unfolding make_kit_output make_kit_verdict
    behind-front v e =
        let rest : Verdict = lists_rule s then call in
        ap (λ (x : Verdict). printed x text)
        (then_on input (head_rule s then design then rest) (v then rest) input-accepted
        (then_assoc (head_rule s) design rest ∙ ap (λ (x : Verdict). x then rest) e))

    pub front-refused : (n p : ℕ) → (head_rule s then design) ≡ refused n p → make_kit_output s ≡ refusal_text n p
    unfolding printed
    front-refused n p e = behind-front (refused n p) e

    module _ (front : (head_rule s then design) ≡ accepted) where
      pub lists-refused : (n p : ℕ) → lists_rule s ≡ refused n p → make_kit_output s ≡ refusal_text n p
      unfolding printed
      lists-refused n p e =
          behind-front accepted front ∙ ap (λ (x : Verdict). printed x text) (then_refused (lists_rule s) call n p e)

      pub behind-lists : lists_rule s ≡ accepted → make_kit_output s ≡ printed (text_rule s then (make_kit_call s).verdict) text
      behind-lists e = behind-front accepted front ∙ ap (λ (x : Verdict). printed x text) (then_on (lists_rule s) call call e refl)

-- ---- the lists

module _ (s vs : List ℕ) (e : lists_scan s ≡ read 0 vs) where
  pub lists-accepted : lists_rule s ≡ accepted
  unfolding lists_rule scan_rule
  lists-accepted = ap (scan_rule 11) e

  pub self-values : self_shown s ≡ packs (firsts vs)
  unfolding self_shown values_of
  self-values = rw e

  pub parity-values : parity_shown s ≡ packs (seconds vs)
  unfolding parity_shown values_of
  parity-values = rw e

-- ---- the length of a kit's text

concat_above : (k n : ℕ) (f : ℕ → List ℕ) → ((i : ℕ) → n ≤ length (f i)) → k * n ≤ length (concat k f)
unfolding concat
concat_above zero n f h = omega arith
concat_above (suc k) n f h =
    omega (arith, length-append (f zero) (concat k (λ i. f (suc i))), h zero, concat_above k n (λ i. f (suc i)) (λ i. h (suc i)))

rows_above : (n : ℕ) (w : List ℕ) → n * n ≤ length (rows_text n w)
unfolding rows_text
rows_above n w = concat_above n n (row_text n w) (λ i. omega (arith, row-length n w i))

pub rows-below : (m t M : ℕ) (self parity : List ℕ) → M * (m * t) * (M * (m * t)) ≤ text_length m t M self parity
unfolding text_length
rows-below m t M self parity = omega (arith, length_parts m t M self parity [], rows_above (M * (m * t)) [])
