-- The rows of the decoder with a window, by computation.
--   window_rows    all of them
-- Assumes nothing.
use mathlib.Core.Path.{refl}
use Rattle.bch.specs.Polynomial.{◌⊕◌, ◌⊗◌, times_x, iterate, poly_at_digits, poly_at, horner, remainder, bits_of}
use Rattle.bch.specs.Field.{field_poly, value_at}
use Rattle.bch.specs.Code.{least_from, minimal_poly, generator, is_codeword, unlike, distance}
use Rattle.staircase.specs.Lists.{tabulate, concat, first_where}
use Rattle.staircase.specs.Design.{column_generator}
use Rattle.staircase.specs.Word.{row_info, row_word, column_info, column_word}
use Rattle.staircase.specs.Frame.{row_sites, column_sites, words, outside_each, outside_among, outside}
use Rattle.staircase.specs.Decoder.{choices, flip_bits, first_correcting, error_positions, occurrences, every_occurrence, once, permitted, correction, flip_all, correct_word, correct_each, round_of, run_each}
use Rattle.staircase.specs.LineErrors.{line_errors}
use Rattle.staircase.specs.Outcomes.{outcome, stuck_each, before_last, last_stuck}
use Rattle.staircase.specs.Rules.{refuse_first, size_rule, long_rule, large_rule, design_rules, count_rule, rounds_rule, list_lengths, frame_lengths, word_work, kept_work, decoder_work, entries, bad_entry, list_rule, bit_rule, frame_bits}
use Rattle.staircase.specs.Window.{window_rule, slide, slide_stuck, windowed, window_stuck, window_counts, window_verdict, window_call}
use Rattle.staircase.specs.Lines.{line_word}
use Rattle.staircase.specs.WindowRows.{WindowRows}

pub window_rows : WindowRows
unfolding ◌⊕◌ ◌⊗◌ times_x iterate poly_at_digits poly_at horner remainder bits_of field_poly value_at least_from minimal_poly generator is_codeword unlike distance tabulate concat first_where row_info row_word column_info column_word row_sites column_sites line_word column_generator words outside_each outside_among outside line_errors choices flip_bits first_correcting error_positions occurrences every_occurrence once permitted correction flip_all correct_word correct_each round_of run_each outcome stuck_each before_last last_stuck refuse_first size_rule long_rule large_rule design_rules count_rule rounds_rule list_lengths frame_lengths word_work kept_work decoder_work entries bad_entry list_rule bit_rule frame_bits window_rule slide slide_stuck windowed window_stuck window_counts window_verdict window_call
window_rows =
    record {
      one_group = refl;
      both_groups = refl;
      one_round = refl;
      left_behind = refl;
      rounds_first = refl;
      no_group = refl;
      many_groups = refl;
      most_groups = refl;
      short_info = refl;
    }
