-- The word checker's verdict step by step, and its answer.
--   lists_asked                                what is asked of the lists
--   received_due                               the rules with the lengths that are due where rule 4 accepts the number of blocks
--   received_flat                              the rules on a received frame, one after another
--   words-design, words-frame, words-counted   the call's answer at each of its ends
-- Assumes nothing.
use Rattle.std.specs.Prelude.{Err, Ok, Result, IsErr, IsErrAnd}
use mathlib.Core.Path.{◌≡◌, refl, sym, ap, ap₂, ◌∙◌, subst⁻¹}
use mathlib.Core.List.{List, []}
use Prim.Native.Nat.{ℕ, ◌*◌, ◌≤◌}
use Rattle.staircase.specs.Design.{Params, params, most-blocks}
use Rattle.staircase.specs.Frame.{outside, frame_of}
use Rattle.staircase.specs.Rules.{Verdict, ◌then◌, design_rules, count_rule, rounds_rule, length_rule, list_lengths, frame_lengths, word_work, interleavers, list_rule, frame_bits}
use Rattle.staircase.specs.Calls.{words_verdict, counted_by, words_call}
use Rattle.answers.specs.declared.Refusal.{Refusal}
use Rattle.design.specs.declared.Design.{Design}
use Rattle.design.specs.Answers.{DesignIs}
use Rattle.design.proofs.Answers.{made-params, made-design}
use Rattle.design.specs.Sizes.{params_of, order_of, lists_of}
use Rattle.rules.specs.declared.lengths.Lengths.{Lengths}
use Rattle.rules.specs.Lengths.{lengths_of, lists_with, lists_due, frame_rules}
use Rattle.rules.specs.Bytes.{byte_rules}
use Rattle.rules.proofs.Chain.{due_where, received-rules, received_bytes}
use Rattle.words_lines.proofs.Count.{by-refused}
use Rattle.words.specs.Checks.{received_rules}
use Rattle.answers.specs.Answers.{refusal_verdict, verdict_of, counted_of}
use Rattle.answers.proofs.Checks.{handed_on, refused_on, check_passed, refusal_refuses, counted-refused}

-- ---- the rules

pub lists_asked : (d : Design) (work : ℕ) {due : Lengths} → due ≡ lists_with (params_of d) work → order_of d ≤ work
    → (due.own ≡ 2 * order_of d) × (due.parity ≡ 2 * order_of d) × (due.inverse ≡ 0) × (order_of d ≤ due.work)
lists_asked d work e h =
    subst⁻¹ (λ (x : Lengths). (x.own ≡ 2 * order_of d) × (x.parity ≡ 2 * order_of d) × (x.inverse ≡ 0) × (order_of d ≤ x.work)) e (refl, refl, refl, h)

pub received_due : (s : Params) (L k : ℕ) (own parity info red : List ℕ) (work : ℕ) (other : Lengths) {due : Lengths} {v : Verdict} → (L ≤ most-blocks → due ≡ other)
    → v ≡ received_rules s L k due own parity info red work → v ≡ received_rules s L k other own parity info red work
unfolding received_rules
received_due s L k own parity info red work other {due} same h =
    h ∙ ap (λ (z : Verdict). z then byte_rules s (interleavers s own parity) [] info red) (due_where s L k (lengths_of own parity [] info red work) due other same)

module _ (m t M col L k : ℕ) (own parity info red : List ℕ) (work : ℕ) where
  abbrev s : Params
  s = params m t M col

  -- as the rules of the decoder's call
  pub received_flat : received_rules s L k (lists_due s) own parity info red work
      ≡ (count_rule L then rounds_rule k then list_lengths s own parity then frame_lengths s L info red then length_rule 6 work (word_work s)
      then list_rule s (interleavers s own parity) then frame_bits info red)
  unfolding received_rules
  received_flat =
      ap (λ (z : Verdict). frame_rules s L k (lengths_of own parity [] info red work) (lists_due s) then z) (received_bytes s (interleavers s own parity) info red)
      ∙ received-rules s own parity work (list_rule s (interleavers s own parity) then frame_bits info red) L k info red

-- ---- the answer

module _ (m t M col L : ℕ) (own parity info red : List ℕ) (work : ℕ) where
  abbrev call : Verdict
  call = words_verdict m t M col L own parity info red work

  abbrev number : ℕ
  number = outside (params m t M col) (interleavers (params m t M col) own parity) L (frame_of info red)

  refused_call : (c : Result ℕ Refusal) {r : Refusal} → c ≡ Err r → verdict_of c ≡ call → counted_of c ≡ words_call m t M col L own parity info red work
  unfolding counted_of verdict_of words_call
  refused_call c {r} k e =
      ap counted_of k ∙ counted-refused (refusal_verdict r) ∙ by-refused (refusal_verdict r) number (refusal_refuses r)
      ∙ ap (λ (v : Verdict). counted_by v number) (sym (ap verdict_of k) ∙ e)

  abbrev rules : Params → Verdict
  rules s = received_rules s L 0 (lists_due s) own parity info red work

  whole : (design_rules m t M col then received_rules (params m t M col) L 0 (lists_due (params m t M col)) own parity info red work) ≡ call
  unfolding words_verdict rounds_rule
  whole = ap (λ (z : Verdict). design_rules m t M col then z) (received_flat m t M col L 0 own parity info red work)

  module _ (a : Result Design Refusal) (n : verdict_of a ≡ design_rules m t M col) where
    -- c is what the call hands on
    pub words-design : (c : Result ℕ Refusal) {r : Refusal} → a ≡ Err r → IsErr c × IsErrAnd c (λ (e : Refusal). e ≡ r)
        → counted_of c ≡ words_call m t M col L own parity info red work
    words-design c g h = refused_call c (handed_on c h.1) (refused_on (rules (params m t M col)) n c g h ∙ whole)

    module _ (i : DesignIs a m t M col) (d : Design) (g : a ≡ Ok d) (x : Result Unit Refusal) (e : verdict_of x ≡ received_rules (params_of d) L 0 (lists_due (params_of d)) own parity info red work) where
      verdict-is : verdict_of x ≡ call
      verdict-is = made-design m t M col rules a n x i g e ∙ whole

      pub words-frame : (c : Result ℕ Refusal) {r : Refusal} → x ≡ Err r → IsErrAnd c (λ (e : Refusal). e ≡ r)
          → counted_of c ≡ words_call m t M col L own parity info red work
      unfolding verdict_of
      words-frame c p h = let k = handed_on c h in refused_call c k (ap verdict_of k ∙ sym (ap verdict_of p) ∙ verdict-is)

      pub words-counted : (k : ℕ) → x ≡ (Ok tt) → k ≡ outside (params_of d) (lists_of d own parity) L (frame_of info red)
          → counted_of (Ok k) ≡ words_call m t M col L own parity info red work
      unfolding counted_of words_call
      words-counted k p b =
          ap₂ counted_by (sym (check_passed p) ∙ verdict-is)
          (b ∙ ap (λ (s : Params). outside s (interleavers s own parity) L (frame_of info red)) (made-params g m t M col i))
