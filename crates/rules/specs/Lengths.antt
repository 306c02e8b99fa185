-- Rules 4 to 6, over the lengths of a call's slices.
--   lengths_of                   the lengths of a call's slices
--   lengths_rule have due        rule 6
--   kit_due, make_due, lists_due, decoder_due, frame_due, batch_due  what is due
--   original_due, original_decoder_due, buffer_lengths   of an original frame: what is due, and what there is of a buffer and working bytes
--   size_rules, batch_size_rules   rules 4 to 6; rules 4, 17 and 6
--   frame_rules, batch_rules      the same for the frame or the frames of a design
-- Assumes nothing.
use Rattle.std.specs.Prelude.{List, ℕ, ◌*◌, length}
use Rattle.staircase.specs.Design.{Params, order}
use Rattle.staircase.specs.System.{row_bytes}
use Rattle.staircase.specs.Rules.{Verdict, ◌then◌, count_rule, rounds_rule, length_rule, info_length, red_length, kit_work, word_work, decoder_work}
use Rattle.staircase.specs.Maker.{make_work}
use Rattle.staircase.specs.Batch.{batch_rule}
use Rattle.original.specs.Rules.{original_work}
use Rattle.rules.specs.declared.lengths.Lengths.{Lengths}

-- the lengths of a call's slices; a call without a slice has an empty one
abbrev pub lengths_of : List ℕ → List ℕ → List ℕ → List ℕ → List ℕ → ℕ → Lengths
lengths_of self parity w info red work = record {
  own = length self;
  parity = length parity;
  inverse = length w;
  info = length info;
  red = length red;
  work = work;
}

-- "6 length: 1 self, 2 parity, 3 inverse, 4 information, 5 redundancy, 6 working; first slice of a wrong length"
unfoldable pub lengths_rule : Lengths → Lengths → Verdict
lengths_rule have due =
    length_rule 1 have.own due.own then length_rule 2 have.parity due.parity then length_rule 3 have.inverse due.inverse
    then length_rule 4 have.info due.info then length_rule 5 have.red due.red then length_rule 6 have.work due.work

unfoldable pub kit_due : Params → Lengths
kit_due s = record {
  own = 2 * order s;
  parity = 2 * order s;
  inverse = order s * row_bytes (order s);
  info = 0;
  red = 0;
  work = kit_work s;
}

unfoldable pub make_due : Params → Lengths
make_due s = record {
  own = 2 * order s;
  parity = 2 * order s;
  inverse = order s * row_bytes (order s);
  info = 0;
  red = 0;
  work = make_work s;
}

-- the lists and some working bytes
abbrev pub lists_with : Params → ℕ → Lengths
lists_with s work = record { own = 2 * order s; parity = 2 * order s; inverse = 0; info = 0; red = 0; work = work }

unfoldable pub lists_due : Params → Lengths
lists_due s = lists_with s (word_work s)

unfoldable pub decoder_due : Params → ℕ → Lengths
decoder_due s L = lists_with s (decoder_work s L)

unfoldable pub frame_due : Params → ℕ → Lengths → Lengths
frame_due s L due = record {
  own = due.own;
  parity = due.parity;
  inverse = due.inverse;
  info = info_length s L;
  red = red_length s L;
  work = due.work;
}

-- "The buffer has place 4 in rule 6"
abbrev pub buffer_lengths : ℕ → ℕ → Lengths
buffer_lengths have work = record { own = 0; parity = 0; inverse = 0; info = have; red = 0; work = work }

unfoldable pub original_due : Params → ℕ → Lengths
original_due s L = buffer_lengths (info_length s L) 0

unfoldable pub original_decoder_due : Params → ℕ → Lengths
original_decoder_due s L = buffer_lengths (info_length s L) (original_work s L)

unfoldable pub size_rules : ℕ → ℕ → Lengths → Lengths → Verdict
size_rules L k have due = count_rule L then rounds_rule k then lengths_rule have due

unfoldable pub frame_rules : Params → ℕ → ℕ → Lengths → Lengths → Verdict
frame_rules s L k have due = size_rules L k have (frame_due s L due)

-- of n frames of L blocks, joined
unfoldable pub batch_due : Params → ℕ → ℕ → Lengths → Lengths
batch_due s L n due = record {
  own = due.own;
  parity = due.parity;
  inverse = due.inverse;
  info = n * info_length s L;
  red = n * red_length s L;
  work = due.work;
}

unfoldable pub batch_size_rules : ℕ → ℕ → Lengths → Lengths → Verdict
batch_size_rules L n have due = count_rule L then batch_rule n then lengths_rule have due

unfoldable pub batch_rules : Params → ℕ → ℕ → Lengths → Lengths → Verdict
batch_rules s L n have due = batch_size_rules L n have (batch_due s L n due)
