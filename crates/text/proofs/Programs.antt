-- What a program prints, by the first rule that refuses.
--   long-kit, long-text, short_inputs   rule 13
--   Admitted, judged-accepted           what the rules of a program ask for, where they accept
--   then_assoc, then_refused, then_on   one rule after another
--   stopped, called                     what is printed where a rule before the call refuses, and where none does
-- Assumes nothing.
use mathlib.Core.Path.{◌≡◌, refl, ap, ◌∙◌}
use mathlib.Core.List.{List}
use Prim.Native.Nat.{ℕ, ◌≤◌, ◌<◌}
use borrow.Author.Tests.{lt-ltb, le-ltb, ltb-false}
use lib.Dec.{ltb}
use lib.ListN.{length}
use Rattle.staircase.specs.Rules.{Verdict, ◌then◌, refuse}
use Rattle.staircase.proofs.Rules.{then_first, then_rest, refuse-false}
use Rattle.staircase.specs.Rules.Verdict.{accepted, refused}
use Rattle.text.specs.KitReader.{scan_kit}
use Rattle.text.specs.Programs.{refusal_text, most-input, input_rule, printed, judged}

-- ---- rule 13

pub long-kit : (kit text : List ℕ) → most-input < length kit → input_rule kit text ≡ refused 13 1
unfolding input_rule
long-kit kit text h = simp (lt-ltb most-input (length kit) h)

pub long-text : (kit text : List ℕ) → length kit ≤ most-input → most-input < length text → input_rule kit text ≡ refused 13 2
unfolding input_rule
long-text kit text a h = simp (le-ltb most-input (length kit) a, lt-ltb most-input (length text) h)

pub short_inputs : (kit text : List ℕ) → length kit ≤ most-input → length text ≤ most-input → input_rule kit text ≡ accepted
unfolding input_rule
short_inputs kit text a b = simp (le-ltb most-input (length kit) a, le-ltb most-input (length text) b)

input-short : (kit text : List ℕ) → input_rule kit text ≡ accepted → (length kit ≤ most-input) × (length text ≤ most-input)
unfolding input_rule
input-short kit text e =
    let a : Verdict = refuse (ltb most-input (length kit)) 13 1 in
    let b : Verdict = refuse (ltb most-input (length text)) 13 2 in (
      ltb-false most-input (length kit) (refuse-false (ltb most-input (length kit)) 13 1 (then_first a b e)),
      ltb-false most-input (length text) (refuse-false (ltb most-input (length text)) 13 2 (then_rest a b e)),
    )

-- ---- rules one after the other

pub record Admitted (kit text : List ℕ) (rule call : Verdict) : Type 0 where
  pub kit-short : length kit ≤ most-input
  pub text-short : length text ≤ most-input
  pub kit_ok : scan_kit kit ≡ accepted
  pub text_ok : rule ≡ accepted
  pub call_ok : call ≡ accepted

pub judged-accepted : (kit text : List ℕ) (rule call : Verdict) → (input_rule kit text then scan_kit kit then rule then call) ≡ accepted
    → Admitted kit text rule call
judged-accepted kit text rule call e =
    let u : Verdict = input_rule kit text in
    let k : Verdict = scan_kit kit in
    let short = input-short kit text (then_first u (k then rule then call) e) in
    let f : (k then rule then call) ≡ accepted = then_rest u (k then rule then call) e in
    let g : (rule then call) ≡ accepted = then_rest k (rule then call) f in
    record {
      kit-short = short.0;
      text-short = short.1;
      kit_ok = then_first k (rule then call) f;
      text_ok = then_first rule call g;
      call_ok = then_rest rule call g;
    }

pub then_assoc : (u v w : Verdict) → (u then v then w) ≡ ((u then v) then w)
then_assoc accepted v w = refl
then_assoc (refused n p) v w = refl

pub then_refused : (u v : Verdict) (n p : ℕ) → u ≡ refused n p → (u then v) ≡ refused n p
then_refused u v n p e = rw e

pub then_on : (u v w : Verdict) → u ≡ accepted → v ≡ w → (u then v) ≡ w
then_on u v w e f = rw (e, f)

-- what is printed, by what the rules before the call say
module _ (kit text : List ℕ) (rule call : Verdict) (out : List ℕ) where
  before_call : (v : Verdict) → (input_rule kit text then scan_kit kit then rule) ≡ v → judged kit text rule call out ≡ printed (v then call) out
  unfolding judged
  before_call v e =
      let u : Verdict = input_rule kit text in
      let w : Verdict = scan_kit kit in
      ap (λ (x : Verdict). printed x out)
      (ap (λ (x : Verdict). u then x) (then_assoc w rule call) ∙ then_assoc u (w then rule) call ∙ ap (λ (x : Verdict). x then call) e)

  pub stopped : (n p : ℕ) → (input_rule kit text then scan_kit kit then rule) ≡ refused n p → judged kit text rule call out ≡ refusal_text n p
  unfolding printed
  stopped n p e = before_call (refused n p) e

  pub called : (input_rule kit text then scan_kit kit then rule) ≡ accepted → judged kit text rule call out ≡ printed call out
  called e = before_call accepted e
