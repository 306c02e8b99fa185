-- The vectors of specs/RowsK.antt, specs/SecondKit.antt, specs/RowsSpread.antt and specs/RowsMixed.antt, by computation. Two kinds of steps would be
-- long, and go by laws: the product of the second kit, whose A is read from its rows, and the search for two errors, which ends at the codeword that is named here.
--   rows_k       document 01's rows under kit K, and more of its refusals, of the word checker and of showing
--   second_kit   the second kit
--   rows_spread  rows of the call for spread lists
--   rows_mixed   rows of the call for mixed lists
-- Assumes nothing.
use mathlib.Core.Path.{◌≡◌, refl, sym, ap, ap₂, ◌∙◌}
use mathlib.Core.Bool.{true, not}
use mathlib.Core.List.{List, [], ◌∷◌, map}
use Prim.Native.Nat.{ℕ, ◌*◌, ◌/◌, ◌%◌, ◌≤◌, ◌<◌}
use native.Mathlib.Nat.{mod-lt, div-lt_iff_lt-mul}
use native.Mathlib.Omega.{arith}
use lib.Dec.{eqb}
use lib.ListN.{length, get_or, replicate}
use Rattle.bch.specs.Polynomial.{◌⊕◌, ◌⊗◌, times_x, iterate, poly_at_digits, poly_at, horner, remainder, bits_of}
use Rattle.bch.specs.Field.{field_poly, value_at}
use Rattle.bch.specs.Code.{least_from, minimal_poly, generator, is_codeword, parity, unlike, distance}
use Rattle.staircase.specs.Lists.{sum_bits, tabulate, concat, first_where}
use Rattle.staircase.specs.Design.{Interleavers, column_generator, Limits}
use Rattle.staircase.specs.Word.{row_info, row_word, column_info, column_word}
use Rattle.staircase.specs.Frame.{Site, row_sites, column_sites, words, read, outside_each, outside_among, outside}
use Rattle.staircase.specs.Frame.Site.{unsent}
use Rattle.staircase.specs.System.{preimage, column_parity, row_parity, residual, system_entry, constant_entry, inverse_entry, product, identity, self_entry, group_bits, group_redundancy, redundancy}
use Rattle.staircase.specs.Decoder.{choices, flip_bits, first_correcting, error_positions, occurrences, every_occurrence, once, permitted, correction, flip_all, correct_word, correct_each, correct_words, round_of, round, run_each, run_rounds, decoded}
use Rattle.staircase.specs.LineErrors.{line_errors}
use Rattle.staircase.specs.Outcomes.{outcome, stuck_each, before_last, last_stuck}
use Rattle.staircase.specs.Rules.{Verdict, refuse_first, size_rule, long_rule, large_rule, design_rules, count_rule, rounds_rule, list_lengths, kit_lengths, red_length, frame_lengths, kit_work, word_work, kept_work, decoder_work, entries, interleavers, bad_entry, list_rule, spare_row, spare_rule, wrong_entry, inverse_rule, kit_rules, content_rules, bit_rule, frame_bits}
use Rattle.staircase.specs.Rules.Verdict.{accepted}
use Rattle.staircase.specs.Calls.{kit_verdict, encode_verdict, encoded_by, encode_call, words_verdict, words_call, decode_verdict, counts_of, decode_call, show_verdict, show_call}
use Rattle.staircase.specs.Spread.{turned_to, list_bytes, narrow_rule, spread_verdict, spread_call}
use Rattle.staircase.specs.Load.{state_after, drawn_bits}
use Rattle.staircase.specs.Mixed.{swapped, shuffled, rows_in, mixed_to, mixed_call}
use Rattle.staircase.specs.Batch.{batch_rule, batch_lengths, batch_verdict, batch_redundancy, batch_call}
use Rattle.staircase.specs.RowsK.{RowsK}
use Rattle.staircase.specs.SecondKit.{params_s, self_s, parity_s, inverse_s, system_s, info_s, red_s, params_t, lists_t, received_t, correction_t, correction0_t, correction1_t, SecondKit}
use Rattle.staircase.specs.RowsSpread.{RowsSpread}
use Rattle.staircase.specs.RowsMixed.{RowsMixed}
use Rattle.staircase.proofs.Search.{first_where-before}
use Rattle.staircase.proofs.Tabulate.{tabulate-at}
use Rattle.staircase.proofs.Matrix.{sum_bits-same}
use Rattle.staircase.proofs.Rules.{refuse_first-accepted, design_limits, bytes_bits}
use Rattle.staircase.proofs.Errors.{errors_at, errors}
use Rattle.staircase.proofs.Correction.{nearest_errors}
use Rattle.staircase.proofs.BchCode.{apart_of}

pub rows_k : RowsK
unfolding ◌⊕◌ ◌⊗◌ times_x iterate poly_at_digits poly_at horner remainder bits_of field_poly value_at least_from minimal_poly generator is_codeword parity sum_bits tabulate concat first_where row_info row_word column_info column_word preimage column_parity column_generator row_parity residual system_entry constant_entry inverse_entry product self_entry group_bits row_sites column_sites words outside_each outside_among outside group_redundancy redundancy choices flip_bits first_correcting error_positions occurrences every_occurrence once permitted correction flip_all correct_word correct_each correct_words round_of round run_each run_rounds decoded outcome stuck_each before_last last_stuck refuse_first size_rule long_rule large_rule design_rules count_rule rounds_rule list_lengths kit_lengths frame_lengths kit_work word_work kept_work decoder_work entries bad_entry list_rule spare_row spare_rule wrong_entry inverse_rule kit_rules content_rules bit_rule frame_bits kit_verdict encode_verdict encode_call words_verdict words_call decode_verdict unlike distance line_errors counts_of decode_call show_verdict show_call batch_rule batch_lengths batch_verdict batch_redundancy batch_call
rows_k =
    record {
      x9 = refl;
      x8 = refl;
      system = refl;
      right_inverse = refl;
      left_inverse = refl;
      passes = refl;
      blocks1 = refl;
      blocks10 = refl;
      blocks01 = refl;
      blocks11 = refl;
      blocks0100 = refl;
      frames2 = refl;
      frames_bit = refl;
      frames_count = refl;
      no_frames = refl;
      most_frames = refl;
      many_frames = refl;
      plain_system = refl;
      plain_refused = refl;
      inverse_refused = refl;
      bits_first = refl;
      corrected = refl;
      corrected_in_one = refl;
      needs_b0 = refl;
      fits3 = refl;
      long4 = refl;
      mirrored3 = refl;
      column3 = refl;
      sizes_first = refl;
      column_first = refl;
      fits204 = refl;
      large205 = refl;
      no_blocks = refl;
      many_blocks = refl;
      many_rounds = refl;
      short_self = refl;
      short_parity = refl;
      short_inverse = refl;
      short_info = refl;
      short_red = refl;
      no_work = refl;
      self_refused = refl;
      parity_refused = refl;
      spare_refused = refl;
      info_refused = refl;
      red_refused = refl;
      all_in_code = refl;
      both_outside = refl;
      uncounted = refl;
      block_shown = refl;
      group_shown = refl;
      block_refused = refl;
      group_refused = refl;
    }

-- ---- the second kit passes

abbrev lists_s : Interleavers
lists_s = interleavers params_s self_s parity_s

abbrev A : ℕ → ℕ → ℕ
A = system_entry params_s lists_s

abbrev W : ℕ → ℕ → ℕ
W = inverse_entry inverse_s 8

abbrev rows_of_a : ℕ → ℕ → ℕ
rows_of_a i j = get_or (get_or system_s i []) j 0

system-rows : tabulate 8 (λ i. tabulate 8 (A i)) ≡ system_s
unfolding ◌⊕◌ ◌⊗◌ times_x iterate poly_at_digits poly_at horner remainder bits_of field_poly value_at least_from minimal_poly generator parity tabulate first_where row_info column_info preimage column_parity column_generator row_parity residual system_entry entries
system-rows = refl

system-at : (i j : ℕ) → i < 8 → j < 8 → A i j ≡ rows_of_a i j
system-at i j hi hj =
    sym (tabulate-at 8 (A i) 0 j hj)
    ∙ ap (λ (r : List ℕ). get_or r j 0) (sym (tabulate-at 8 (λ i. tabulate 8 (A i)) [] i hi) ∙ ap (λ (a : List (List ℕ)). get_or a i []) system-rows)

wrong_entry-same : (n : ℕ) (a b a₂ b₂ : ℕ → ℕ → ℕ) → 0 < n → ((i j : ℕ) → i < n → j < n → a i j ≡ a₂ i j) → ((i j : ℕ) → i < n → j < n → b i j ≡ b₂ i j)
    → (e : ℕ) → e < n * n → wrong_entry n a b e ≡ wrong_entry n a₂ b₂ e
unfolding wrong_entry product
wrong_entry-same n a b a₂ b₂ pos ha hb e h =
    let i : ℕ = e / n in
    let j : ℕ = e % n in
    let hi : i < n = (div-lt_iff_lt-mul pos).1 h in
    let hj : j < n = mod-lt e pos in
    ap (λ (z : ℕ). not (eqb z (identity i j)))
    (sum_bits-same n (λ k. a i k * b k j) (λ k. a₂ i k * b₂ k j) (λ k m. ap₂ (λ (x y : ℕ). x * y) (ha i k hi m) (hb k j m hj)))

none_wrong : first_where 64 (wrong_entry 8 rows_of_a W) ≡ 64
unfolding first_where wrong_entry product sum_bits inverse_entry
none_wrong = refl

inverse-accepted : inverse_rule params_s lists_s inverse_s ≡ accepted
unfolding inverse_rule
inverse-accepted =
    refuse_first-accepted 9 0 64 (wrong_entry 8 A W) (λ e h. wrong_entry-same 8 A W rows_of_a W (omega arith) system-at (λ i j hi hj. refl) e h
    ∙ first_where-before 64 (wrong_entry 8 rows_of_a W) e (omega (arith, h, none_wrong)))

-- rule 9 apart
encoded_but : encode_call 4 1 2 0 3 self_s parity_s inverse_s info_s (replicate (red_length params_s 3) 255) (kit_work params_s)
    ≡ encoded_by (inverse_rule params_s lists_s inverse_s) (replicate (red_length params_s 3) 255) red_s
unfolding ◌⊕◌ ◌⊗◌ times_x iterate poly_at_digits poly_at horner remainder bits_of field_poly value_at least_from minimal_poly generator is_codeword parity sum_bits tabulate concat first_where row_info row_word column_info column_word preimage column_parity column_generator row_parity residual system_entry constant_entry inverse_entry product self_entry group_bits row_sites column_sites words outside_each outside_among outside group_redundancy redundancy choices flip_bits first_correcting error_positions occurrences every_occurrence once permitted correction flip_all correct_word correct_each correct_words round_of round run_each run_rounds decoded refuse_first size_rule long_rule large_rule design_rules count_rule rounds_rule list_lengths kit_lengths frame_lengths kit_work word_work kept_work decoder_work entries bad_entry list_rule spare_row spare_rule wrong_entry kit_rules content_rules bit_rule frame_bits kit_verdict encode_verdict encode_call decode_verdict decode_call
encoded_but = refl

-- ---- two errors

limits_t : Limits 5 2 2 0
unfolding design_rules size_rule long_rule large_rule
limits_t = design_limits 5 2 2 0 refl

abbrev word_t : ℕ → List ℕ
word_t a = read received_t (row_sites params_t lists_t 1 0 a)

-- the codewords within two changes of row words 0 and 1
abbrev code0_t : List ℕ
code0_t = 0 ∷ 0 ∷ 1 ∷ 1 ∷ 1 ∷ 0 ∷ 1 ∷ 1 ∷ 0 ∷ 0 ∷ 1 ∷ 0 ∷ 1 ∷ 0 ∷ 1 ∷ 0 ∷ 1 ∷ 0 ∷ 0 ∷ 0 ∷ 1 ∷ 1 ∷ 1 ∷ 1 ∷ []

abbrev code1_t : List ℕ
code1_t = 0 ∷ 1 ∷ 1 ∷ 0 ∷ 0 ∷ 1 ∷ 1 ∷ 0 ∷ 1 ∷ 0 ∷ 0 ∷ 1 ∷ 1 ∷ 1 ∷ 1 ∷ 0 ∷ 0 ∷ 0 ∷ 1 ∷ 0 ∷ 0 ∷ 1 ∷ 0 ∷ 1 ∷ []

errors_of : (u v : List ℕ) → length u ≡ 24 → length v ≡ 24 → bit_rule 0 u ≡ accepted → bit_rule 0 v ≡ accepted
    → is_codeword params_t.g params_t.r v ≡ true → distance u v ≤ 2 → error_positions params_t u ≡ errors u v
errors_of u v lu lv hu hv = nearest_errors params_t 24 (apart_of limits_t) u v lu lv (bytes_bits 0 u hu) (bytes_bits 0 v hv)

positions0_t : error_positions params_t (word_t 0) ≡ 8 ∷ 17 ∷ []
unfolding ◌⊕◌ ◌⊗◌ times_x iterate poly_at_digits poly_at horner remainder field_poly value_at least_from minimal_poly generator is_codeword unlike distance tabulate first_where refuse_first bit_rule row_info row_word row_sites errors_at errors
positions0_t = errors_of (word_t 0) code0_t refl refl refl refl refl (let e : distance (word_t 0) code0_t ≡ 2 = refl in omega arith)

positions1_t : error_positions params_t (word_t 1) ≡ 1 ∷ 9 ∷ []
unfolding ◌⊕◌ ◌⊗◌ times_x iterate poly_at_digits poly_at horner remainder field_poly value_at least_from minimal_poly generator is_codeword unlike distance tabulate first_where refuse_first bit_rule row_info row_word row_sites errors_at errors
positions1_t = errors_of (word_t 1) code1_t refl refl refl refl refl (let e : distance (word_t 1) code1_t ≡ 2 = refl in omega arith)

-- the sites of a word at some positions, if all are sent
abbrev sent_at : List Site → List ℕ → List Site
sent_at w e = permitted w (map (λ j. get_or w j unsent) e)

two-errors : correction_t 0 ≡ correction0_t
unfolding occurrences every_occurrence once permitted correction row_sites row_word row_info tabulate
two-errors = ap (sent_at (row_sites params_t lists_t 1 0 0)) positions0_t

needs-B0 : correction_t 1 ≡ correction1_t
unfolding occurrences every_occurrence once permitted correction row_sites row_word row_info tabulate
needs-B0 = ap (sent_at (row_sites params_t lists_t 1 0 1)) positions1_t

pub second_kit : SecondKit
unfolding ◌⊕◌ ◌⊗◌ times_x iterate poly_at_digits poly_at horner remainder bits_of field_poly value_at least_from minimal_poly generator is_codeword parity sum_bits tabulate concat first_where row_info row_word column_info column_word preimage column_parity column_generator row_parity residual system_entry constant_entry inverse_entry product self_entry group_bits row_sites column_sites words outside_each outside_among outside group_redundancy redundancy choices flip_bits first_correcting error_positions occurrences every_occurrence once permitted correction flip_all correct_word correct_each correct_words round_of round run_each run_rounds decoded outcome stuck_each before_last last_stuck refuse_first size_rule long_rule large_rule design_rules count_rule rounds_rule list_lengths kit_lengths frame_lengths kit_work word_work kept_work decoder_work entries bad_entry list_rule spare_row spare_rule wrong_entry inverse_rule kit_rules content_rules bit_rule frame_bits kit_verdict encode_verdict encode_call decode_verdict unlike distance line_errors counts_of decode_call
second_kit =
    record {
      system = system-rows;
      wrong_bit = refl;
      encoded =
          encoded_but ∙ ap (λ (v : Verdict). encoded_by v (replicate (red_length params_s 3) 255) red_s) inverse-accepted;
      corrected = refl;
      unsettled = refl;
      two_errors = two-errors;
      needs_b0 = needs-B0;
    }

-- ---- spread lists

pub rows_spread : RowsSpread
unfolding concat size_rule long_rule large_rule design_rules list_lengths turned_to list_bytes narrow_rule spread_verdict spread_call
rows_spread = record { accepts = refl; self = refl; parity = refl; narrow = refl; narrow_k = refl; short = refl }

-- ---- mixed lists

pub rows_mixed : RowsMixed
unfolding tabulate concat size_rule long_rule large_rule design_rules list_lengths list_bytes narrow_rule spread_verdict state_after drawn_bits swapped shuffled rows_in mixed_to mixed_call
rows_mixed = record {
  accepts = refl;
  rows0 = refl;
  rows1 = refl;
  rows_q = refl;
  self = refl;
  parity = refl;
  state = refl;
  self_greatest = refl;
  state_greatest = refl;
  narrow = refl;
  short = refl;
}
