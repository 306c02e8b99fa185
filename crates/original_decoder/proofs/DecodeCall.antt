-- The decoder's verdict step by step, and its answer.
--   decode-sizes                rules 4 to 6, as they are for every kind of frame
--   decode-fits                 what rules 4 to 6 and 10 leave
--   decode-design, decode-refused, decode-done   the call's answer at each of its ends
-- Assumes nothing.
use Rattle.std.specs.Prelude.{Err, Ok, Result, IsErr, IsErrAnd}
use mathlib.Core.Path.{◌≡◌, refl, sym, ap, ◌∙◌}
use mathlib.Core.Logic.{◌≢◌}
use mathlib.Core.List.{List}
use Prim.Native.Nat.{ℕ, ◌≤◌}
use native.Mathlib.Omega.{arith}
use lib.ListN.{length}
use Rattle.staircase.specs.Design.{Params, params, most-blocks, most-rounds}
use Rattle.staircase.specs.Frame.{outside_each}
use Rattle.staircase.specs.Decoder.{Decoded, run_each, rounds_allowed}
use Rattle.staircase.specs.Outcomes.{last_stuck}
use Rattle.staircase.specs.LineErrors.{line_errors}
use Rattle.staircase.specs.Rules.{Verdict, ◌then◌, count_rule, rounds_rule, length_rule, info_length, bit_rule}
use Rattle.staircase.specs.Rules.Verdict.{accepted, refused}
use Rattle.staircase.specs.Calls.{Counts}
use Rattle.staircase.proofs.Rules.{then_first, then_rest, length_equal, bytes_bits}
use Rattle.answers.specs.declared.Counts as told
use Rattle.answers.specs.declared.Refusal.{Refusal}
use Rattle.answers.specs.Answers.{refusal_verdict, verdict_of, corrected_of, refused_frame, buffer_result, buffer_decoded}
use Rattle.answers.proofs.Checks.{handed_on, refused_on, refusal_refuses, check_passed}
use Rattle.decoder_frame.proofs.Limit.{allowed_itself}
use Rattle.design.specs.Answers.{DesignIs, AllowedOriginal}
use Rattle.original.specs.Frame.{row_words, buffer_of}
use Rattle.original.specs.Rules.{original_rules, original_work}
use Rattle.original.specs.Calls.{original_decode_verdict, original_decoded, original_counts, CorrectedBuffer, corrected_buffer_by, original_decode_call}
use Rattle.design.specs.declared.Design.{Design}
use Rattle.design.specs.Sizes.{params_of}
use Rattle.design.proofs.Answers.{made-params, made-design}
use Rattle.rules.specs.declared.lengths.Lengths.{Lengths}
use Rattle.rules.specs.Lengths.{lengths_rule, buffer_lengths, original_decoder_due, size_rules}
use Rattle.rules.proofs.Chain.{then_assoc, sizes_where}
use Rattle.original_rows.specs.Rows.{BufferFits, buffer_rules}
use Rattle.original_rows.proofs.Checked.{buffer_limits}
use Rattle.original_decoder.specs.Answers.{decode_sizes, decode_rules, decoded_buffer}

pub decode-sizes : (s : Params) (L k have work : ℕ) {due : Lengths} → (L ≤ most-blocks → due ≡ original_decoder_due s L)
    → size_rules L k (buffer_lengths have work) due ≡ decode_sizes s L k have work
unfolding size_rules lengths_rule original_decoder_due decode_sizes buffer_rules
decode-sizes s L k have work {due} same =
    let v4 : Verdict = length_rule 4 have (info_length s L) in
    let v6 : Verdict = length_rule 6 work (original_work s L) in
    sizes_where L k (buffer_lengths have work) due (original_decoder_due s L) same
    ∙ sym (then_assoc (count_rule L) (rounds_rule k then v4) v6 ∙ ap (λ (v : Verdict). count_rule L then v) (then_assoc (rounds_rule k) v4 v6))

-- what is left of a buffer, its working bytes and a number of rounds
pub record Decodes (d : Design) (L k : ℕ) (l : List ℕ) (work : ℕ) : Type 0 where
  pub fits : BufferFits d L l
  pub room : work ≡ original_work (params_of d) L
  pub few-rounds : k ≤ most-rounds

pub decode-fits : (d : Design) → AllowedOriginal d → (L k : ℕ) (l : List ℕ) (work : ℕ) → decode_rules (params_of d) L k l work ≡ accepted → Decodes d L k l work
unfolding decode_rules decode_sizes
decode-fits d a L k l work e =
    let s : Params = params_of d in
    let v6 : Verdict = length_rule 6 work (original_work s L) in
    let first : Verdict = buffer_rules s L k (length l) in
    let sizes : (first then v6) ≡ accepted = then_first (first then v6) (bit_rule 0 l) e in
    let n = buffer_limits s L k (length l) (then_first first v6 sizes) in
    record {
      fits = record { allowed = a; few-blocks = n.1; long = n.3; bits = bytes_bits 0 l (then_rest (first then v6) (bit_rule 0 l) e) };
      room = length_equal 6 work (original_work s L) (then_rest first v6 sizes);
      few-rounds = n.2;
    }

refused-is : (v : Verdict) (l new : List ℕ) (c : Counts) → v ≢ accepted → buffer_result (refused_frame v (buffer_of l)) ≡ corrected_buffer_by v l new c
unfolding refused_frame
refused-is accepted l new c h = absurd (h refl)
refused-is (refused n p) l new c h = refl

module _ (m t M col L k : ℕ) (l : List ℕ) (work : ℕ) where
  abbrev new : Params → List ℕ
  new s = (original_decoded s L k l).frame.info

  abbrev counts : Params → Counts
  counts s = original_counts s L k l

  abbrev asked : Params
  asked = params m t M col

  -- after at most n rounds
  abbrev left : ℕ → CorrectedBuffer
  left n =
      let r : Decoded = run_each (row_words asked L) n (buffer_of l) in
      record {
        verdict = accepted;
        buffer = r.frame.info;
        counts = record {
          rounds = r.rounds;
          turned = line_errors (buffer_of l) r.frame;
          outside = outside_each r.frame (row_words asked L);
          stuck = last_stuck (row_words asked L) n (buffer_of l);
        };
      }

  whole : (original_rules m t M col then decode_rules (params m t M col) L k l work) ≡ original_decode_verdict m t M col L k l work
  unfolding original_decode_verdict decode_rules decode_sizes buffer_rules
  whole =
      ap (λ (z : Verdict). original_rules m t M col then z)
      (flat (count_rule L) (rounds_rule k) (length_rule 4 (length l) (info_length asked L)) (length_rule 6 work (original_work asked L)) (bit_rule 0 l))
    where
      flat : (u v w x y : Verdict) → (((u then v then w) then x) then y) ≡ (u then v then w then x then y)
      flat accepted accepted accepted x y = refl
      flat accepted accepted (refused n p) x y = refl
      flat accepted (refused n p) w x y = refl
      flat (refused n p) v w x y = refl

  -- c is what the call hands on
  refused_call : (c : Result told.Counts Refusal) {r : Refusal} → c ≡ Err r → verdict_of c ≡ original_decode_verdict m t M col L k l work
      → buffer_decoded c l ≡ original_decode_call m t M col L k l work
  unfolding buffer_decoded corrected_of verdict_of original_decode_call
  refused_call c {r} q e =
      ap (λ (z : Result told.Counts Refusal). buffer_decoded z l) q ∙ refused-is (refusal_verdict r) l (new asked) (counts asked) (refusal_refuses r)
      ∙ ap (λ (v : Verdict). corrected_buffer_by v l (new asked) (counts asked)) (sym (ap verdict_of q) ∙ e)

  abbrev rules : Params → Verdict
  rules s = decode_rules s L k l work

  module _ (a : Result Design Refusal) (n : verdict_of a ≡ original_rules m t M col) where
    pub decode-design : (c : Result told.Counts Refusal) {r : Refusal} → a ≡ Err r → IsErr c × IsErrAnd c (λ (e : Refusal). e ≡ r)
        → buffer_decoded c l ≡ original_decode_call m t M col L k l work
    decode-design c g h = refused_call c (handed_on c h.1) (refused_on (rules asked) n c g h ∙ whole)

    module _ (i : DesignIs a m t M col) (d : Design) (g : a ≡ Ok d) (x : Result Unit Refusal) (e : verdict_of x ≡ decode_rules (params_of d) L k l work) where
      verdict-is : verdict_of x ≡ original_decode_verdict m t M col L k l work
      verdict-is = made-design m t M col rules a n x i g e ∙ whole

      pub decode-refused : (c : Result told.Counts Refusal) {r : Refusal} → x ≡ Err r → IsErrAnd c (λ (e : Refusal). e ≡ r)
          → buffer_decoded c l ≡ original_decode_call m t M col L k l work
      unfolding verdict_of
      decode-refused c p h = let q = handed_on c h in refused_call c q (ap verdict_of q ∙ sym (ap verdict_of p) ∙ verdict-is)

      -- the rounds that a number stands for
      pub decode-done : (y : CorrectedBuffer) (limit : ℕ) → x ≡ (Ok tt) → limit ≡ rounds_allowed k → 1 ≤ limit → y ≡ decoded_buffer (params_of d) L limit l
          → y ≡ original_decode_call m t M col L k l work
      unfolding decoded_buffer original_decode_call original_decoded original_counts
      decode-done y limit p q some b =
          let twice : rounds_allowed limit ≡ rounds_allowed k = sym (allowed_itself limit (λ z. omega (arith, some, z))) ∙ q in
          b ∙ ap (λ (s : Params). corrected_buffer_by accepted l (original_decoded s L limit l).frame.info (original_counts s L limit l)) (made-params g m t M col i)
          ∙ ap left twice
          ∙ ap (λ (v : Verdict). corrected_buffer_by v l (new asked) (counts asked)) (sym (check_passed p) ∙ verdict-is)
