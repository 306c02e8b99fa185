-- The verdict of a batch step by step, and what the call leaves.
--   frames-sized, encodable                    what the rules say once they accept
--   batch-design, batch-frames, batch-made     the call's answer at each of its ends
-- Assumes nothing.
use Rattle.std.specs.Prelude.{Err, Ok, Result, IsErr, IsErrAnd}
use mathlib.Core.Path.{◌≡◌, refl, sym, ap, ◌∙◌}
use mathlib.Core.Logic.{◌≢◌}
use mathlib.Core.List.{List}
use Prim.Native.Nat.{ℕ}
use lib.ListN.{length}
use Rattle.staircase.specs.Design.{Params, params}
use Rattle.staircase.specs.Rules.{Verdict, ◌then◌, design_rules, kit_work, interleavers, list_rule, spare_rule, inverse_rule, kit_rules, content_rules}
use Rattle.staircase.specs.Rules.Verdict.{accepted, refused}
use Rattle.staircase.specs.Calls.{encoded_by}
use Rattle.staircase.specs.Batch.{batch_verdict, batch_redundancy, batch_call}
use Rattle.staircase.proofs.Rules.{then_first, then_rest, lists_permute, bytes_bits, content_accepted}
use Rattle.staircase.proofs.Encoded.{encoded_by-verdict}
use Rattle.answers.specs.declared.Refusal.{Refusal}
use Rattle.design.specs.declared.Design.{Design}
use Rattle.design.specs.Sizes.{params_of, lists_of}
use Rattle.design.specs.Answers.{DesignIs, Allowed}
use Rattle.design.proofs.Answers.{made-params, made-design}
use Rattle.encoder_frame.specs.Groups.{Encodable}
use Rattle.rules.specs.Lengths.{lengths_of, kit_due, batch_due, batch_rules}
use Rattle.rules.proofs.Chain.{batch-rules}
use Rattle.rules.proofs.Accepted.{batch-accepted}
use Rattle.kit_inverse.specs.Fits.{KitSized}
use Rattle.encoder_batch.specs.Checks.{frames_rules}
use Rattle.answers.specs.Answers.{verdict_of}
use Rattle.answers.proofs.Checks.{handed_on, refused_on, check_refused}

module _ (d : Design) (L n : ℕ) (own parity w info red : List ℕ) (work : ℕ) (allowed : Allowed d) where
  abbrev s : Params
  s = params_of d

  abbrev numbers : Verdict
  numbers = batch_rules s L n (lengths_of own parity w info red work) (kit_due s)

  pub frames-sized : (bytes : List ℕ) → work ≡ length bytes → numbers ≡ accepted → KitSized d own parity w bytes
  unfolding kit_due batch_due kit_work
  frames-sized bytes same e =
      let fits = (batch-accepted s L n (lengths_of own parity w info red work) (kit_due s) e).2 in
      record { allowed = allowed; own_length = fits.0; parity_length = fits.1; inverse_length = fits.2; work_length = sym same ∙ fits.5 }

  pub encodable : frames_rules s L n own parity w info red work ≡ accepted → Encodable d L n parity w info red
  unfolding frames_rules kit_rules kit_due batch_due
  encodable e =
      let l = interleavers s own parity in
      let few = batch-accepted s L n (lengths_of own parity w info red work) (kit_due s) (then_first numbers (content_rules s l w info) e) in
      let content = content_accepted s l w info (then_rest numbers (content_rules s l w info) e) in
      record {
        allowed = allowed;
        few-blocks = few.0;
        few-frames = few.1;
        parity_length = few.2.1;
        inverse_length = few.2.2;
        info_length = few.2.3;
        red_length = few.2.4;
        parity_permutes = (lists_permute s l (then_first (list_rule s l) (spare_rule s w then inverse_rule s l w) content.0)).1;
        bits = bytes_bits 0 info content.1;
      }

-- ---- what the call leaves

module _ (v : Verdict) (old new : List ℕ) where
  left-refused : (x : Result Unit Refusal) {r : Refusal} → verdict_of x ≡ v → x ≡ Err r
      → (verdict_of x ≡ (encoded_by v old new).verdict) × (old ≡ (encoded_by v old new).red)
  left-refused x e g = (e ∙ sym (encoded_by-verdict v old new), by_old v (λ z. check_refused g (e ∙ z)))
    where
      by_old : (u : Verdict) → u ≢ accepted → old ≡ (encoded_by u old new).red
      by_old accepted h = absurd (h refl)
      by_old (refused n p) h = refl

  left-made : (after : List ℕ) → accepted ≡ v → after ≡ new → (accepted ≡ (encoded_by v old new).verdict) × (after ≡ (encoded_by v old new).red)
  left-made after e a = (e ∙ sym (encoded_by-verdict v old new), a ∙ ap (λ (z : Verdict). (encoded_by z old new).red) e)

module _ (m t M col L n : ℕ) (own parity w info red : List ℕ) (work : ℕ) where
  abbrev call : Verdict
  call = batch_verdict m t M col L n own parity w info red work

  abbrev new : List ℕ
  new = batch_redundancy (params m t M col) (interleavers (params m t M col) own parity) w L n info

  abbrev rules : Params → Verdict
  rules s = frames_rules s L n own parity w info red work

  whole : (design_rules m t M col then frames_rules (params m t M col) L n own parity w info red work) ≡ batch_verdict m t M col L n own parity w info red work
  unfolding batch_verdict frames_rules
  whole =
      ap (λ (z : Verdict). design_rules m t M col then z)
      (batch-rules (params m t M col) own parity work (content_rules (params m t M col) (interleavers (params m t M col) own parity) w info) L 0 info red n w)

  abbrev Calls : Verdict → List ℕ → Type 0
  Calls v after = (v ≡ (batch_call m t M col L n own parity w info red work).verdict) × (after ≡ (batch_call m t M col L n own parity w info red work).red)

  pub batch-design : (x : Result Unit Refusal) (r : Refusal) → verdict_of {A = Design} (Err r) ≡ design_rules m t M col
      → IsErr x × IsErrAnd x (λ (e : Refusal). e ≡ r) → Calls (verdict_of x) red
  unfolding batch_call
  batch-design x r j h = left-refused call red new x (refused_on (rules (params m t M col)) j x refl h ∙ whole) (handed_on x h.1)

  module _ (d : Design) (j : verdict_of (Ok d) ≡ design_rules m t M col) (i : DesignIs (Ok d) m t M col) where
    verdict-is : (x : Result Unit Refusal) → verdict_of x ≡ frames_rules (params_of d) L n own parity w info red work → verdict_of x ≡ call
    verdict-is x e = made-design m t M col rules (Ok d) j x i refl e ∙ whole

    pub batch-frames : (x : Result Unit Refusal) (r : Refusal) → verdict_of x ≡ frames_rules (params_of d) L n own parity w info red work → x ≡ Err r
        → Calls (verdict_of x) red
    unfolding batch_call
    batch-frames x r e g = left-refused call red new x (verdict-is x e) g

    pub batch-made : (after : List ℕ) → accepted ≡ frames_rules (params_of d) L n own parity w info red work
        → after ≡ batch_redundancy (params_of d) (lists_of d own parity) w L n info → Calls accepted after
    unfolding batch_call verdict_of
    batch-made after e b =
        left-made call red new after (verdict-is (Ok tt) e)
        (b ∙ ap (λ (s : Params). batch_redundancy s (interleavers s own parity) w L n info) (made-params {a = Ok d} refl m t M col i))
