-- What each call on original staircase frames answers and leaves, for every argument. The contracts of the exported functions cite these.
--   original_encode_call   the encoder: its verdict and the buffer
--   original_words_call    the word checker: its verdict and the number of words outside the code
--   original_counts       what the decoder counts of a buffer
--   original_decode_call   the decoder: its verdict, the buffer and the counts
-- Working bytes are left open, so the decoder's call is given only their number, `work`.
-- Assumes nothing.
use Rattle.std.specs.Prelude.{List, ℕ, length}
use Rattle.staircase.specs.Design.{Params, params}
use Rattle.staircase.specs.Frame.{outside_each}
use Rattle.staircase.specs.Decoder.{Decoded, run_each, rounds_allowed}
use Rattle.staircase.specs.Outcomes.{last_stuck}
use Rattle.staircase.specs.LineErrors.{line_errors}
use Rattle.staircase.specs.Rules.{Verdict, ◌then◌, count_rule, rounds_rule, length_rule, info_length, bit_rule}
use Rattle.staircase.specs.Rules.Verdict.{accepted, refused}
use Rattle.staircase.specs.Calls.{Counted, counted_by, Counts, no_counts}
use Rattle.original.specs.Frame.{row_words, buffer_of, encoded}
use Rattle.original.specs.Rules.{original_rules, info_bits, original_work}

-- ---- the encoder

-- "The buffer has place 4 in rule 6, and the encoder doesn't judge old parity by rule 10"
unfoldable pub original_encode_verdict : ℕ → ℕ → ℕ → ℕ → ℕ → List ℕ → Verdict
original_encode_verdict m t M col L l =
    original_rules m t M col then count_rule L then length_rule 4 (length l) (info_length (params m t M col) L) then info_bits (params m t M col) l

pub record Written : Type 0 where
  pub verdict : Verdict
  pub buffer : List ℕ

-- "lent buffers stay untouched"
abbrev pub written_by : Verdict → List ℕ → List ℕ → Written
written_by accepted old new = record { verdict = accepted; buffer = new }
written_by (refused n p) old new = record { verdict = refused n p; buffer = old }

unfoldable pub original_encode_call : ℕ → ℕ → ℕ → ℕ → ℕ → List ℕ → Written
original_encode_call m t M col L l = written_by (original_encode_verdict m t M col L l) l (encoded (params m t M col) L l)

-- ---- the word checker

unfoldable pub original_words_verdict : ℕ → ℕ → ℕ → ℕ → ℕ → List ℕ → Verdict
original_words_verdict m t M col L l = original_rules m t M col then count_rule L then length_rule 4 (length l) (info_length (params m t M col) L) then bit_rule 0 l

unfoldable pub original_words_call : ℕ → ℕ → ℕ → ℕ → ℕ → List ℕ → Counted
original_words_call m t M col L l = counted_by (original_words_verdict m t M col L l) (outside_each (buffer_of l) (row_words (params m t M col) L))

-- ---- the decoder

unfoldable pub original_decode_verdict : ℕ → ℕ → ℕ → ℕ → ℕ → ℕ → List ℕ → ℕ → Verdict
original_decode_verdict m t M col L k l work =
    let s : Params = params m t M col in
    original_rules m t M col then count_rule L then rounds_rule k
    then length_rule 4 (length l) (info_length s L) then length_rule 6 work (original_work s L) then bit_rule 0 l

-- "A round takes the blocks in order, in each the rows 0 to M - 1"
unfoldable pub original_decoded : Params → ℕ → ℕ → List ℕ → Decoded
original_decoded s L k l = run_each (row_words s L) (rounds_allowed k) (buffer_of l)

-- "the results are those of frames"
unfoldable pub original_counts : Params → ℕ → ℕ → List ℕ → Counts
original_counts s L k l =
    let d : Decoded = original_decoded s L k l in
    record {
      rounds = d.rounds;
      turned = line_errors (buffer_of l) d.frame;
      outside = outside_each d.frame (row_words s L);
      stuck = last_stuck (row_words s L) (rounds_allowed k) (buffer_of l);
    }

pub record CorrectedBuffer : Type 0 where
  pub verdict : Verdict
  pub buffer : List ℕ
  pub counts : Counts

-- the buffer before the call and after it; a refused call counts nothing
abbrev pub corrected_buffer_by : Verdict → List ℕ → List ℕ → Counts → CorrectedBuffer
corrected_buffer_by accepted old new c = record { verdict = accepted; buffer = new; counts = c }
corrected_buffer_by (refused n p) old new c = record { verdict = refused n p; buffer = old; counts = no_counts }

unfoldable pub original_decode_call : ℕ → ℕ → ℕ → ℕ → ℕ → ℕ → List ℕ → ℕ → CorrectedBuffer
original_decode_call m t M col L k l work =
    let s : Params = params m t M col in
    corrected_buffer_by (original_decode_verdict m t M col L k l work) l (original_decoded s L k l).frame.info (original_counts s L k l)
