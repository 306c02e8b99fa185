-- Demand 1 of the calls on original staircase frames.
--   original_by_table                                  rules 1, 2 and 19
--   written_by-verdict                                 the verdict of the encoder's call
--   corrected_buffer_by-verdict                         that of the decoder's
--   original_encode_demand1, original_words_demand1, original_decode_demand1   the calls
-- Assumes nothing.
use mathlib.Core.Path.{◌≡◌, refl, subst⁻¹}
use mathlib.Core.Bool.{true, false, cond}
use mathlib.Core.Logic.{◌≢◌}
use mathlib.Core.List.{List, [], ◌∷◌}
use Prim.Native.Nat.{ℕ, ◌*◌}
use native.Mathlib.Nat.{mul-le-mul}
use native.Mathlib.Omega.{arith}
use lib.Dec.{ltb, leb}
use lib.ListN.{get_or, length}
use Rattle.staircase.specs.Design.{Params, params}
use Rattle.staircase.specs.Frame.{outside_each}
use Rattle.staircase.specs.Rules.{Verdict, ◌then◌, size_rule, count_rule, rounds_rule, length_rule, info_length, bit_rule}
use Rattle.staircase.specs.Rules.Verdict.{accepted, refused}
use Rattle.staircase.specs.Calls.{Counts}
use Rattle.staircase.specs.Demand1.{among, ByTable, Demand1}
use Rattle.staircase.specs.Demand1 as table
use Rattle.original.specs.Frame.{row_words, buffer_of, encoded}
use Rattle.original.specs.Rules.{row_length, row_long_rule, thin_rule, original_rules, in_information, info_bits, original_work}
use Rattle.original.specs.Calls.{original_encode_verdict, written_by, original_encode_call, original_words_verdict, original_words_call, original_decode_verdict, original_decoded, original_counts, corrected_buffer_by, original_decode_call}
use Rattle.staircase.proofs.Rules.{size_limits}
use Rattle.staircase.proofs.Demand1.{by_table_then, by_table-refuse, by_table-first, size-by_table, long-by_table, count-by_table, rounds-by_table, length-by_table, bits-by_table, counted_by-verdict}

module _ (rules : List ℕ) (has1 : among 1 rules ≡ true) (has2 : among 2 rules ≡ true) (has19 : among 19 rules ≡ true) where
  thin-by_table : (m t M col : ℕ) → size_rule m t M col ≡ accepted → ByTable rules (thin_rule (params m t M col))
  unfolding thin_rule
  thin-by_table m t M col a =
      let (m-low, m-high, t-low, t-high, M-low, M-high, col-high) = size_limits m t M col a in
      by_table-refuse rules (leb M (m * t)) 19 (m * t) has19 (λ e. table.thin refl (mul-le-mul m-high t-high))

  pub original_by_table : (m t M col : ℕ) → ByTable rules (original_rules m t M col)
  unfolding original_rules row_long_rule
  original_by_table m t M col =
      let s : Params = params m t M col in
      by_table_then rules (size_rule m t M col) (row_long_rule m s then thin_rule s) (size-by_table rules has1 m t M col)
      (λ a. by_table_then rules (row_long_rule m s) (thin_rule s) (long-by_table rules has2 m t M col (row_length s) a) (λ b. thin-by_table m t M col a))

-- ---- the encoder

pub written_by-verdict : (v : Verdict) (old new : List ℕ) → (written_by v old new).verdict ≡ v
written_by-verdict accepted old new = refl
written_by-verdict (refused n p) old new = refl

written_by-untouched : (v : Verdict) (old new : List ℕ) → (written_by v old new).verdict ≢ accepted → (written_by v old new).buffer ∷ [] ≡ old ∷ []
written_by-untouched accepted old new h = absurd (h refl)
written_by-untouched (refused n p) old new h = refl

-- the encoder and the word checker have 1, 2, 19, 4, 6 and 10
abbrev original_numbers : List ℕ
original_numbers = 1 ∷ 2 ∷ 4 ∷ 6 ∷ 10 ∷ 19 ∷ []

-- rules 1, 2, 19, 4 and 6, and then others
buffer-by_table : (m t M col L : ℕ) (l : List ℕ) (rest : Verdict) → ByTable original_numbers rest
    → ByTable original_numbers (original_rules m t M col then count_rule L then length_rule 4 (length l) (info_length (params m t M col) L) then rest)
buffer-by_table m t M col L l rest h =
    let n : ℕ = info_length (params m t M col) L in
    by_table_then original_numbers (original_rules m t M col) (count_rule L then length_rule 4 (length l) n then rest) (original_by_table original_numbers refl refl refl m t M col)
    (λ a. by_table_then original_numbers (count_rule L) (length_rule 4 (length l) n then rest) (count-by_table original_numbers refl L)
    (λ b. by_table_then original_numbers (length_rule 4 (length l) n) rest (length-by_table original_numbers refl 4 (length l) n (omega arith) (omega arith)) (λ c. h)))

pub original_encode_demand1 : (m t M col L : ℕ) (l : List ℕ)
    → Demand1 (1 ∷ 2 ∷ 4 ∷ 6 ∷ 10 ∷ 19 ∷ []) (original_encode_call m t M col L l).verdict (l ∷ []) ((original_encode_call m t M col L l).buffer ∷ [])
unfolding original_encode_call original_encode_verdict info_bits
original_encode_demand1 m t M col L l =
    let s : Params = params m t M col in
    let v : Verdict = original_encode_verdict m t M col L l in
    record {
      by_table =
          subst⁻¹ (ByTable original_numbers) (written_by-verdict v l (encoded s L l))
          (buffer-by_table m t M col L l (info_bits s l)
          (by_table-first original_numbers 10 0 (length l) (λ k. cond (in_information s k) (ltb 1 (get_or l k 0)) false) refl (λ i k. table.bit refl)));
      untouched = written_by-untouched v l (encoded s L l);
    }

-- ---- the word checker

pub original_words_demand1 : (m t M col L : ℕ) (l : List ℕ) → Demand1 (1 ∷ 2 ∷ 4 ∷ 6 ∷ 10 ∷ 19 ∷ []) (original_words_call m t M col L l).verdict [] []
unfolding original_words_call original_words_verdict
original_words_demand1 m t M col L l =
    record {
      by_table =
          subst⁻¹ (ByTable original_numbers) (counted_by-verdict (original_words_verdict m t M col L l) (outside_each (buffer_of l) (row_words (params m t M col) L)))
          (buffer-by_table m t M col L l (bit_rule 0 l) (bits-by_table original_numbers refl 0 l));
      untouched = λ h. refl;
    }

-- ---- the decoder

pub corrected_buffer_by-verdict : (v : Verdict) (old new : List ℕ) (c : Counts) → (corrected_buffer_by v old new c).verdict ≡ v
corrected_buffer_by-verdict accepted old new c = refl
corrected_buffer_by-verdict (refused n p) old new c = refl

corrected_buffer_by-untouched : (v : Verdict) (old new : List ℕ) (c : Counts) → (corrected_buffer_by v old new c).verdict ≢ accepted
    → (corrected_buffer_by v old new c).buffer ∷ [] ≡ old ∷ []
corrected_buffer_by-untouched accepted old new c h = absurd (h refl)
corrected_buffer_by-untouched (refused n p) old new c h = refl

-- the decoder has 1, 2, 19, 4, 5, 6 and 10
abbrev decoder_numbers : List ℕ
decoder_numbers = 1 ∷ 2 ∷ 4 ∷ 5 ∷ 6 ∷ 10 ∷ 19 ∷ []

decode-by_table : (m t M col L k : ℕ) (l : List ℕ) (work : ℕ) → ByTable decoder_numbers (original_decode_verdict m t M col L k l work)
unfolding original_decode_verdict
decode-by_table m t M col L k l work =
    let s : Params = params m t M col in
    let v4 : Verdict = length_rule 4 (length l) (info_length s L) in
    let v6 : Verdict = length_rule 6 work (original_work s L) in
    let v10 : Verdict = bit_rule 0 l in
    by_table_then decoder_numbers (original_rules m t M col) (count_rule L then rounds_rule k then v4 then v6 then v10) (original_by_table decoder_numbers refl refl refl m t M col)
    (λ a. by_table_then decoder_numbers (count_rule L) (rounds_rule k then v4 then v6 then v10) (count-by_table decoder_numbers refl L)
    (λ b. by_table_then decoder_numbers (rounds_rule k) (v4 then v6 then v10) (rounds-by_table decoder_numbers refl k)
    (λ c. by_table_then decoder_numbers v4 (v6 then v10) (length-by_table decoder_numbers refl 4 (length l) (info_length s L) (omega arith) (omega arith))
    (λ d. by_table_then decoder_numbers v6 v10 (length-by_table decoder_numbers refl 6 work (original_work s L) (omega arith) (omega arith))
    (λ e. bits-by_table decoder_numbers refl 0 l)))))

pub original_decode_demand1 : (m t M col L k : ℕ) (l : List ℕ) (work : ℕ)
    → Demand1 (1 ∷ 2 ∷ 4 ∷ 5 ∷ 6 ∷ 10 ∷ 19 ∷ []) (original_decode_call m t M col L k l work).verdict (l ∷ []) ((original_decode_call m t M col L k l work).buffer ∷ [])
unfolding original_decode_call
original_decode_demand1 m t M col L k l work =
    let s : Params = params m t M col in
    let v : Verdict = original_decode_verdict m t M col L k l work in
    let new : List ℕ = (original_decoded s L k l).frame.info in
    record {
      by_table = subst⁻¹ (ByTable decoder_numbers) (corrected_buffer_by-verdict v l new (original_counts s L k l)) (decode-by_table m t M col L k l work);
      untouched = corrected_buffer_by-untouched v l new (original_counts s L k l);
    }
