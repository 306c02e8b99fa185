-- The encoder's verdict step by step, and its answer.
--   information_fits            what rules 4, 6 and 10 leave
--   encode-design, encode-refused, encode-made   the call's answer at each of its ends
-- Assumes nothing.
use Rattle.std.specs.Prelude.{Err, Ok, Result, IsErr, IsErrAnd}
use mathlib.Core.Path.{◌≡◌, refl, sym, ap, ap₂, ◌∙◌}
use mathlib.Core.Logic.{◌≢◌}
use mathlib.Core.List.{List}
use Prim.Native.Nat.{ℕ}
use lib.ListN.{length}
use Rattle.staircase.specs.Design.{Params, params}
use Rattle.staircase.specs.Rules.{Verdict, ◌then◌, count_rule, rounds_rule, length_rule, info_length}
use Rattle.staircase.specs.Rules.Verdict.{accepted, refused}
use Rattle.staircase.proofs.Rules.{then_first, then_rest}
use Rattle.answers.specs.declared.Refusal.{Refusal}
use Rattle.answers.specs.Answers.{verdict_of, written_of}
use Rattle.answers.proofs.Checks.{handed_on, refused_on, check_refused, check_passed}
use Rattle.original.specs.Frame.{encoded}
use Rattle.original.specs.Rules.{original_rules, info_bits}
use Rattle.original.specs.Demand.{InfoBits}
use Rattle.original.specs.Calls.{original_encode_verdict, written_by, original_encode_call}
use Rattle.original.proofs.Rules.{info_bits-bits}
use Rattle.design.specs.declared.Design.{Design}
use Rattle.design.specs.Answers.{DesignIs, AllowedOriginal}
use Rattle.design.specs.Sizes.{params_of}
use Rattle.original_rows.specs.Rows.{buffer_rules}
use Rattle.original_rows.proofs.Checked.{buffer_limits}
use Rattle.original_encoder.specs.Written.{BufferLong, encode_rules}
use Rattle.design.proofs.Answers.{made-params, made-design}

pub information_fits : (d : Design) → AllowedOriginal d → (L : ℕ) (l : List ℕ) → encode_rules (params_of d) L l ≡ accepted → BufferLong d L l × InfoBits (params_of d) l
unfolding encode_rules
information_fits d a L l e =
    let n = buffer_limits (params_of d) L 0 (length l) (then_first (buffer_rules (params_of d) L 0 (length l)) (info_bits (params_of d) l) e) in
    (record { allowed = a; few-blocks = n.1; long = n.3 }, info_bits-bits (params_of d) l (then_rest (buffer_rules (params_of d) L 0 (length l)) (info_bits (params_of d) l) e))

by-refused : (v : Verdict) (old new : List ℕ) → v ≢ accepted → record { verdict = v; buffer = old } ≡ written_by v old new
by-refused accepted old new h = absurd (h refl)
by-refused (refused n p) old new h = refl

module _ (m t M col L : ℕ) (l : List ℕ) where
  abbrev made : List ℕ
  made = encoded (params m t M col) L l

  whole : (original_rules m t M col then encode_rules (params m t M col) L l) ≡ original_encode_verdict m t M col L l
  unfolding original_encode_verdict encode_rules buffer_rules rounds_rule
  whole = ap (λ (z : Verdict). original_rules m t M col then z) (flat (count_rule L) (length_rule 4 (length l) (info_length (params m t M col) L)) (info_bits (params m t M col) l))
    where
      flat : (u v w : Verdict) → ((u then v) then w) ≡ (u then v then w)
      flat accepted v w = refl
      flat (refused n p) v w = refl

  -- c is what the call hands on
  refused_call : (c : Result Unit Refusal) {r : Refusal} → c ≡ Err r → verdict_of c ≡ original_encode_verdict m t M col L l → written_of c l ≡ original_encode_call m t M col L l
  unfolding original_encode_call
  refused_call c k e = by-refused (verdict_of c) l made (check_refused k) ∙ ap (λ (v : Verdict). written_by v l made) e

  abbrev rules : Params → Verdict
  rules s = encode_rules s L l

  module _ (a : Result Design Refusal) (n : verdict_of a ≡ original_rules m t M col) where
    pub encode-design : (c : Result Unit Refusal) {r : Refusal} → a ≡ Err r → IsErr c × IsErrAnd c (λ (e : Refusal). e ≡ r) → written_of c l ≡ original_encode_call m t M col L l
    encode-design c g h = refused_call c (handed_on c h.1) (refused_on (rules (params m t M col)) n c g h ∙ whole)

    module _ (i : DesignIs a m t M col) (d : Design) (g : a ≡ Ok d) (x : Result Unit Refusal) (e : verdict_of x ≡ encode_rules (params_of d) L l) where
      verdict-is : verdict_of x ≡ original_encode_verdict m t M col L l
      verdict-is = made-design m t M col rules a n x i g e ∙ whole

      pub encode-refused : (c : Result Unit Refusal) {r : Refusal} → x ≡ Err r → IsErrAnd c (λ (e : Refusal). e ≡ r) → written_of c l ≡ original_encode_call m t M col L l
      encode-refused c p h = let k = handed_on c h in refused_call c k (ap verdict_of k ∙ sym (ap verdict_of p) ∙ verdict-is)

      pub encode-made : (new : List ℕ) → x ≡ (Ok tt) → new ≡ encoded (params_of d) L l → written_of {A = Unit} (Ok tt) new ≡ original_encode_call m t M col L l
      unfolding original_encode_call
      encode-made new p b =
          ap₂ (λ (v : Verdict) (z : List ℕ). record { verdict = v; buffer = z }) (check_passed {A = Unit} {x = Ok tt} refl) (b ∙ ap (λ (s : Params). encoded s L l) (made-params g m t M col i))
          ∙ ap (λ (v : Verdict). written_by v l made) (sym (check_passed p) ∙ verdict-is)
