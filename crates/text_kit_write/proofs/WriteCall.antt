-- The writer's verdict step by step, and what it leaves; the same of the length.
--   lengths_passed, text-judged                    rule 6 for the kit's slices and for the text's buffer
--   text-fits                                      what rules 6 to 8 say of the lengths once they accept
--   write_design, write_refused, write_made        what `write_kit` answers and leaves at each of its ends
--   measure_design, measure_lists, measure_made    what `text_length` answers at each of its ends
-- Assumes nothing.
use Rattle.std.specs.Prelude.{Err, Ok, Result}
use mathlib.Core.Path.{◌≡◌, refl, sym, ap, ap₂, ◌∙◌, subst, subst₃}
use mathlib.Core.Logic.{◌≢◌}
use mathlib.Core.List.{List, []}
use Prim.Native.Nat.{ℕ}
use lib.ListN.{length}
use Rattle.staircase.specs.Design.{Params, params, order}
use Rattle.staircase.specs.Demand2.{FitsOrder}
use Rattle.staircase.specs.Rules.{Verdict, ◌then◌, design_rules, length_rule, list_lengths, kit_lengths, interleavers}
use Rattle.staircase.specs.Rules.Verdict.{accepted, refused}
use Rattle.staircase.proofs.Rules.{then_first, then_rest, length_equal, lengths_fit}
use Rattle.answers.specs.declared.Refusal.{Refusal}
use Rattle.design.specs.declared.Design.{Design}
use Rattle.design.specs.Sizes.{params_of}
use Rattle.design.specs.Answers.{DesignIs}
use Rattle.design.proofs.Answers.{refused-design, made-design}
use Rattle.rules.specs.Bytes.{byte_rules}
use Rattle.rules.proofs.Chain.{lists-and-spare}
use Rattle.text.specs.KitText.{kit_bytes}
use Rattle.text.specs.KitWriter.{write_verdict, write_call, text_length, measure_verdict, measured_by, measure_call}
use Rattle.text.proofs.KitSpelled.{text-length}
use Rattle.text.proofs.Kept.{kept_new, kept_old}
use Rattle.text_kit_write.specs.Checks.{text_rules, measured_of}
use Rattle.answers.specs.Answers.{refusal_verdict, verdict_of}
use Rattle.answers.proofs.Checks.{passed_then, check_refused, refusal_refuses, check_passed}

-- ---- the design

-- A design that was made has the three numbers that it was made from.
made-numbers : {a : Result Design Refusal} {d : Design} → a ≡ Ok d → (m t M : ℕ) → DesignIs a m t M 0 → (d.m ≡ m) × (d.t ≡ t) × (d.size ≡ M) × (d.col ≡ 0)
unfolding DesignIs
made-numbers {a} {d} e m t M h = let i : DesignIs (Ok d) m t M 0 = rw e at h in i

-- ---- the lengths

module _ (d : Design) (own parity w : List ℕ) where
  pub lengths_passed : {x : Result Unit Refusal} → verdict_of x ≡ kit_lengths (params_of d) own parity w → x ≡ (Ok tt)
      → FitsOrder (order (params_of d)) own parity w
  lengths_passed e h = lengths_fit (params_of d) own parity w (sym e ∙ check_passed h)

  -- rule 6 for the text's buffer, by the length that the code has
  pub text-judged : (bytes : ℕ) {v : Verdict} {n : ℕ} → v ≡ length_rule 7 bytes n → n ≡ text_length d.m d.t d.size own parity
      → v ≡ length_rule 7 bytes (length (kit_bytes d.m d.t d.size own parity w))
  text-judged bytes e h = e ∙ ap (λ (k : ℕ). length_rule 7 bytes k) (h ∙ sym (text-length d.m d.t d.size own parity w))

module _ (m t M col : ℕ) (own parity w : List ℕ) (bytes : ℕ) (e : text_rules m t M col own parity w bytes ≡ accepted) where
  abbrev s : Params
  s = params m t M col

  abbrev room : Verdict
  room = length_rule 7 bytes (length (kit_bytes m t M own parity w))

  pub text-fits : FitsOrder (order (params m t M col)) own parity w × (bytes ≡ length (kit_bytes m t M own parity w))
  unfolding text_rules
  text-fits = (
    lengths_fit s own parity w (then_first (kit_lengths s own parity w) (room then byte_rules s (interleavers s own parity) w [] []) e),
    length_equal 7 bytes (length (kit_bytes m t M own parity w))
        (then_first room (byte_rules s (interleavers s own parity) w [] []) (then_rest (kit_lengths s own parity w) (room then byte_rules s (interleavers s own parity) w [] []) e)),
  )

-- ---- what the writer leaves

module _ (m t M : ℕ) (own parity w text : List ℕ) where
  -- the answer y of a refused call
  refused_call : {r : Refusal} (y : Result Unit Refusal) → y ≡ Err r → verdict_of y ≡ write_verdict m t M own parity w text
      → (verdict_of y ≡ (write_call m t M own parity w text).verdict) × (text ≡ (write_call m t M own parity w text).text)
  unfolding write_call
  refused_call y h e = (e, sym (kept_old (write_verdict m t M own parity w text) (kit_bytes m t M own parity w) text (λ z. check_refused h (e ∙ z))))

  abbrev rules : Params → Verdict
  rules s = text_rules m t M 0 own parity w (length text)

  whole : (design_rules m t M 0 then text_rules m t M 0 own parity w (length text)) ≡ write_verdict m t M own parity w text
  unfolding write_verdict text_rules
  whole =
      ap (λ (z : Verdict). design_rules m t M 0 then kit_lengths (params m t M 0) own parity w then length_rule 7 (length text) (length (kit_bytes m t M own parity w)) then z)
      (lists-and-spare (params m t M 0) (interleavers (params m t M 0) own parity) w)

  module _ (a : Result Design Refusal) (n : verdict_of a ≡ design_rules m t M 0) where
    pub write_design : {r : Refusal} (y : Result Unit Refusal) → a ≡ Err r → y ≡ Err r
        → (verdict_of y ≡ (write_call m t M own parity w text).verdict) × (text ≡ (write_call m t M own parity w text).text)
    unfolding verdict_of
    write_design y g h = refused_call y h ((refused-design m t M 0 rules a n y g (ap verdict_of h ∙ sym (ap verdict_of g))).1 ∙ whole)

    module _ (i : DesignIs a m t M 0) (d : Design) (g : a ≡ Ok d) (x : Result Unit Refusal)
        (e : verdict_of x ≡ text_rules d.m d.t d.size d.col own parity w (length text)) where
      verdict-is : verdict_of x ≡ write_verdict m t M own parity w text
      verdict-is =
          let k = made-numbers g m t M i in
          subst₃ (λ (b c z : ℕ). verdict_of x ≡ text_rules b c z 0 own parity w (length text)) k.0 k.1 k.2
          (subst (λ (y : ℕ). verdict_of x ≡ text_rules d.m d.t d.size y own parity w (length text)) k.3 e)
          ∙ passed_then (text_rules m t M 0 own parity w (length text)) n g
          ∙ whole

      pub write_refused : {r : Refusal} (y : Result Unit Refusal) → x ≡ Err r → y ≡ Err r
          → (verdict_of y ≡ (write_call m t M own parity w text).verdict) × (text ≡ (write_call m t M own parity w text).text)
      write_refused y h k = refused_call y k (ap verdict_of (k ∙ sym h) ∙ verdict-is)

      pub write_made : (after : List ℕ) → x ≡ Ok tt → after ≡ kit_bytes d.m d.t d.size own parity w
          → (verdict_of {A = Unit} (Ok tt) ≡ (write_call m t M own parity w text).verdict) × (after ≡ (write_call m t M own parity w text).text)
      unfolding write_call
      write_made after h b =
          let k = made-numbers g m t M i in (
            ap verdict_of (sym h) ∙ verdict-is,
            subst₃ (λ (p c z : ℕ). after ≡ kit_bytes p c z own parity w) k.0 k.1 k.2 b
                ∙ sym (kept_new (write_verdict m t M own parity w text) (kit_bytes m t M own parity w) text (sym verdict-is ∙ check_passed h)),
          )

-- ---- the length

pub measured-refused : (v : Verdict) → record { verdict = v; length = 0 } ≡ measured_by v 0
measured-refused accepted = refl
measured-refused (refused n p) = refl

by-refused : (v : Verdict) (n : ℕ) → v ≢ accepted → measured_by v 0 ≡ measured_by v n
by-refused accepted n h = absurd (h refl)
by-refused (refused k p) n h = refl

module _ (m t M : ℕ) (own parity : List ℕ) where
  -- the answer c of a refused call
  refused_measure : {r : Refusal} (c : Result ℕ Refusal) → c ≡ Err r → verdict_of c ≡ measure_verdict m t M own parity
      → measured_of c ≡ measure_call m t M own parity
  unfolding measured_of verdict_of measure_call
  refused_measure {r} c h e =
      ap measured_of h ∙ measured-refused (refusal_verdict r) ∙ by-refused (refusal_verdict r) (text_length m t M own parity) (refusal_refuses r)
      ∙ ap (λ (v : Verdict). measured_by v (text_length m t M own parity)) (sym (ap verdict_of h) ∙ e)

  abbrev lists : Params → Verdict
  lists s = list_lengths s own parity

  whole_measure : (design_rules m t M 0 then list_lengths (params m t M 0) own parity) ≡ measure_verdict m t M own parity
  unfolding measure_verdict
  whole_measure = refl

  module _ (a : Result Design Refusal) (n : verdict_of a ≡ design_rules m t M 0) where
    pub measure_design : {r : Refusal} (c : Result ℕ Refusal) → a ≡ Err r → c ≡ Err r → measured_of c ≡ measure_call m t M own parity
    unfolding verdict_of
    measure_design c g h = refused_measure c h ((refused-design m t M 0 lists a n c g (ap verdict_of h ∙ sym (ap verdict_of g))).1 ∙ whole_measure)

    module _ (i : DesignIs a m t M 0) (d : Design) (g : a ≡ Ok d) (x : Result Unit Refusal) (e : verdict_of x ≡ list_lengths (params_of d) own parity) where
      lists_are : verdict_of x ≡ measure_verdict m t M own parity
      lists_are = made-design m t M 0 lists a n x i g e ∙ whole_measure

      pub measure_lists : {r : Refusal} (c : Result ℕ Refusal) → x ≡ Err r → c ≡ Err r → measured_of c ≡ measure_call m t M own parity
      unfolding verdict_of
      measure_lists c h k = refused_measure c k (ap verdict_of k ∙ sym (ap verdict_of h) ∙ lists_are)

      pub measure_made : (k : ℕ) → x ≡ Ok tt → k ≡ text_length d.m d.t d.size own parity
          → measured_of (Ok k) ≡ measure_call m t M own parity
      unfolding measured_of measure_call
      measure_made k h b =
          let j = made-numbers g m t M i in
          ap₂ measured_by (sym (check_passed h) ∙ lists_are)
          (subst₃ (λ (p c z : ℕ). k ≡ text_length p c z own parity) j.0 j.1 j.2 b)
