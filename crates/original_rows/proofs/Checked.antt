-- What rules 4 to 6 say once they accept, and the word checker's verdict step by step.
--   buffer-sizes                rules 4 to 6 for a buffer, as they are for every kind of frame
--   buffer_limits               what they say
--   buffer-small                its length
--   received_fits               what rules 4, 6 and 10 leave
--   words-design, words_received, words-counted   the call's answer at each of its ends
-- Assumes nothing.
use Rattle.std.specs.Prelude.{Err, Ok, Result, IsErr, IsErrAnd}
use mathlib.Core.Path.{◌≡◌, refl, sym, ap, ap₂, ◌∙◌}
use mathlib.Core.List.{List}
use Prim.Native.Nat.{ℕ, ◌*◌, ◌≤◌}
use lib.Dec.{ltb}
use lib.ListN.{length}
use borrow.Author.Tests.{ltb-false}
use Rattle.staircase.specs.Design.{Params, params, most-blocks, most-rounds}
use Rattle.staircase.specs.Frame.{outside_each}
use Rattle.staircase.specs.Rules.{Verdict, ◌then◌, count_rule, rounds_rule, length_rule, info_length, bit_rule}
use Rattle.staircase.specs.Rules.Verdict.{accepted, refused}
use Rattle.staircase.specs.Calls.{counted_by}
use Rattle.staircase.proofs.Bounds.{small_product}
use Rattle.staircase.proofs.Rules.{then_first, then_rest, refuse-false, count_limits, length_equal, bytes_bits}
use Rattle.answers.specs.declared.Refusal.{Refusal}
use Rattle.answers.specs.Answers.{refusal_verdict, verdict_of, counted_of}
use Rattle.answers.proofs.Checks.{handed_on, refused_on, check_passed, refusal_refuses, counted-refused}
use Rattle.design.specs.Answers.{DesignIs, AllowedOriginal}
use Rattle.rules.specs.declared.lengths.Lengths.{Lengths}
use Rattle.rules.specs.Lengths.{lengths_rule, buffer_lengths, original_due, size_rules}
use Rattle.rules.proofs.Chain.{then_none, sizes_where}
use Rattle.words_lines.proofs.Count.{by-refused}
use Rattle.original.specs.Frame.{buffer_of, row_words}
use Rattle.original.specs.Rules.{original_rules}
use Rattle.original.specs.Calls.{original_words_verdict, original_words_call}
use Rattle.design.specs.declared.Design.{Design}
use Rattle.design.specs.Sizes.{params_of}
use Rattle.design.proofs.Answers.{made-params, made-design}
use Rattle.original_rows.specs.Rows.{BufferFits, buffer_rules, received_rules}

-- what lacks has no bytes, and none are due
pub buffer-sizes : (s : Params) (L k have : ℕ) {due : Lengths} → (L ≤ most-blocks → due ≡ original_due s L) → size_rules L k (buffer_lengths have 0) due ≡ buffer_rules s L k have
unfolding size_rules lengths_rule original_due buffer_rules
buffer-sizes s L k have {due} same =
    sizes_where L k (buffer_lengths have 0) due (original_due s L) same
    ∙ ap (λ (v : Verdict). count_rule L then rounds_rule k then v) (then_none (length_rule 4 have (info_length s L)))

pub buffer_limits : (s : Params) (L k have : ℕ) → buffer_rules s L k have ≡ accepted → (1 ≤ L) × (L ≤ most-blocks) × (k ≤ most-rounds) × (have ≡ info_length s L)
unfolding buffer_rules rounds_rule
buffer_limits s L k have e =
    let v : Verdict = length_rule 4 have (info_length s L) in
    let n = count_limits L (then_first (count_rule L) (rounds_rule k then v) e) in
    let f : (rounds_rule k then v) ≡ accepted = then_rest (count_rule L) (rounds_rule k then v) e in
    (n.0, n.1, ltb-false most-rounds k (refuse-false (ltb most-rounds k) 5 k (then_first (rounds_rule k) v f)), length_equal 4 have (info_length s L) (then_rest (rounds_rule k) v f))

-- M is at most 500
pub buffer-small : (d : Design) → AllowedOriginal d → (L : ℕ) → L ≤ most-blocks → L * (d.size * d.size) ≤ 1024000000
buffer-small d a L h = small_product L (d.size * d.size) 4096 250000 h (small_product d.size d.size 500 500 a.M-high a.M-high)

pub received_fits : (d : Design) → AllowedOriginal d → (L : ℕ) (l : List ℕ) → received_rules (params_of d) L l ≡ accepted → BufferFits d L l
unfolding received_rules
received_fits d a L l e =
    let n = buffer_limits (params_of d) L 0 (length l) (then_first (buffer_rules (params_of d) L 0 (length l)) (bit_rule 0 l) e) in
    record { allowed = a; few-blocks = n.1; long = n.3; bits = bytes_bits 0 l (then_rest (buffer_rules (params_of d) L 0 (length l)) (bit_rule 0 l) e) }

-- ---- the answer

module _ (m t M col L : ℕ) (l : List ℕ) where
  abbrev number : ℕ
  number = outside_each (buffer_of l) (row_words (params m t M col) L)

  whole : (original_rules m t M col then received_rules (params m t M col) L l) ≡ original_words_verdict m t M col L l
  unfolding original_words_verdict received_rules buffer_rules rounds_rule
  whole = ap (λ (z : Verdict). original_rules m t M col then z) (flat (count_rule L) (length_rule 4 (length l) (info_length (params m t M col) L)) (bit_rule 0 l))
    where
      flat : (u v w : Verdict) → ((u then v) then w) ≡ (u then v then w)
      flat accepted v w = refl
      flat (refused n p) v w = refl

  refused_call : (c : Result ℕ Refusal) {r : Refusal} → c ≡ Err r → verdict_of c ≡ original_words_verdict m t M col L l → counted_of c ≡ original_words_call m t M col L l
  unfolding counted_of verdict_of original_words_call
  refused_call c {r} k e =
      ap counted_of k ∙ counted-refused (refusal_verdict r) ∙ by-refused (refusal_verdict r) number (refusal_refuses r)
      ∙ ap (λ (v : Verdict). counted_by v number) (sym (ap verdict_of k) ∙ e)

  abbrev rules : Params → Verdict
  rules s = received_rules s L l

  module _ (a : Result Design Refusal) (n : verdict_of a ≡ original_rules m t M col) where
    -- c is what the call hands on
    pub words-design : (c : Result ℕ Refusal) {r : Refusal} → a ≡ Err r → IsErr c × IsErrAnd c (λ (e : Refusal). e ≡ r) → counted_of c ≡ original_words_call m t M col L l
    words-design c g h = refused_call c (handed_on c h.1) (refused_on (rules (params m t M col)) n c g h ∙ whole)

    module _ (i : DesignIs a m t M col) (d : Design) (g : a ≡ Ok d) (x : Result Unit Refusal) (e : verdict_of x ≡ received_rules (params_of d) L l) where
      verdict-is : verdict_of x ≡ original_words_verdict m t M col L l
      verdict-is = made-design m t M col rules a n x i g e ∙ whole

      pub words_received : (c : Result ℕ Refusal) {r : Refusal} → x ≡ Err r → IsErrAnd c (λ (e : Refusal). e ≡ r) → counted_of c ≡ original_words_call m t M col L l
      unfolding verdict_of
      words_received c p h = let k = handed_on c h in refused_call c k (ap verdict_of k ∙ sym (ap verdict_of p) ∙ verdict-is)

      pub words-counted : (k : ℕ) → x ≡ (Ok tt) → k ≡ outside_each (buffer_of l) (row_words (params_of d) L)
          → counted_of (Ok k) ≡ original_words_call m t M col L l
      unfolding counted_of original_words_call
      words-counted k p b =
          ap₂ counted_by (sym (check_passed p) ∙ verdict-is) (b ∙ ap (λ (s : Params). outside_each (buffer_of l) (row_words s L)) (made-params g m t M col i))
