-- The rows of the writer of kit text, by computation.
--   rows_writer   the rows
-- Assumes nothing.
use mathlib.Core.Path.{refl}
use Rattle.text_formats.specs.Format.{digits_of, dec}
use Rattle.text_formats.specs.Items.{lines_from, bits_line}
use Rattle.staircase.specs.Lists.{tabulate, concat, first_where}
use Rattle.staircase.specs.System.{inverse_entry}
use Rattle.staircase.specs.Rules.{refuse_first, size_rule, long_rule, large_rule, design_rules, list_lengths, kit_lengths, entries, bad_entry, list_rule, spare_row, spare_rule}
use Rattle.text.specs.Rules.{kept}
use Rattle.text.specs.KitText.{pair_line, kit_body, kit_values, kit_bytes}
use Rattle.text.specs.KitWriter.{write_verdict, write_call, text_length, measure_verdict, measure_call}
use Rattle.text.specs.RowsWriter.{RowsWriter}

pub rows_writer : RowsWriter
unfolding digits_of dec lines_from bits_line tabulate concat first_where inverse_entry refuse_first size_rule long_rule large_rule design_rules list_lengths kit_lengths entries bad_entry list_rule spare_row spare_rule kept pair_line kit_body kit_values kit_bytes write_verdict write_call text_length measure_verdict measure_call
rows_writer =
    record {
      long = refl;
      measured = refl;
      written = refl;
      short_buffer = refl;
      long_buffer = refl;
      wide_measured = refl;
      wide_entry = refl;
      wide_buffer = refl;
    }
