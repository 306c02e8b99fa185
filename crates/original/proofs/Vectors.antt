-- The rows of original staircase frames, by computation.
--   rows_original   each row of specs/RowsOriginal.antt
-- Assumes nothing.
use mathlib.Core.Path.{refl}
use Rattle.bch.specs.Polynomial.{◌⊕◌, ◌⊗◌, times_x, iterate, poly_at_digits, poly_at, horner, remainder, bits_of}
use Rattle.bch.specs.Field.{field_poly, value_at}
use Rattle.bch.specs.Code.{least_from, minimal_poly, generator, is_codeword, parity, unlike, distance}
use Rattle.staircase.specs.Lists.{tabulate, concat, first_where}
use Rattle.staircase.specs.Frame.{outside_each}
use Rattle.staircase.specs.Decoder.{choices, flip_bits, first_correcting, error_positions, occurrences, every_occurrence, once, permitted, correction, flip_all, correct_word, correct_each, round_of, run_each}
use Rattle.staircase.specs.Outcomes.{outcome, stuck_each, before_last, last_stuck}
use Rattle.staircase.specs.LineErrors.{line_errors}
use Rattle.staircase.specs.Rules.{refuse_first, size_rule, count_rule, rounds_rule, bit_rule}
use Rattle.original.specs.Systematic.{put_all, encode_word, encode_each}
use Rattle.original.specs.Frame.{row_of, rows, row_words, encoded}
use Rattle.original.specs.Rules.{row_long_rule, thin_rule, original_rules, info_bits, original_work}
use Rattle.original.specs.Calls.{original_encode_verdict, original_encode_call, original_words_verdict, original_words_call, original_decode_verdict, original_decoded, original_counts, original_decode_call}
use Rattle.original.specs.RowsOriginal.{RowsOriginal}

pub rows_original : RowsOriginal
unfolding ◌⊕◌ ◌⊗◌ times_x iterate poly_at_digits poly_at horner remainder bits_of field_poly value_at least_from minimal_poly generator is_codeword parity unlike distance tabulate concat first_where outside_each choices flip_bits first_correcting error_positions occurrences every_occurrence once permitted correction flip_all correct_word correct_each round_of run_each outcome stuck_each before_last last_stuck line_errors refuse_first size_rule count_rule rounds_rule bit_rule put_all encode_word encode_each row_of rows row_words encoded row_long_rule thin_rule original_rules info_bits original_work original_encode_verdict original_encode_call original_words_verdict original_words_call original_decode_verdict original_decoded original_counts original_decode_call
rows_original =
    record {
      block = refl;
      block_over255 = refl;
      blocks = refl;
      all_in_code = refl;
      outside = refl;
      restored = refl;
      restored_in_one = refl;
      fits5 = refl;
      thin4 = refl;
      fits7 = refl;
      long8 = refl;
      long_first = refl;
      thin30 = refl;
      fits500 = refl;
      size501 = refl;
      col2 = refl;
      size501col2 = refl;
      thin4col1 = refl;
      short_buffer = refl;
      no_work = refl;
      info_refused = refl;
      byte_refused = refl;
      no_blocks = refl;
      many_rounds = refl;
    }
