-- The rules on a buffer that is to be decoded after the design's, and the decoder's result.
--   decode_sizes      rules 4 to 6 for a buffer that is to be decoded, by its length
--   decode_rules      and rule 10
--   decoded_buffer    the result for a buffer that no rule refuses, after at most k rounds
-- Assumes nothing.
use Rattle.std.specs.Prelude.{List, ℕ, length}
use Rattle.staircase.specs.Design.{Params}
use Rattle.staircase.specs.Rules.{Verdict, ◌then◌, length_rule, bit_rule}
use Rattle.staircase.specs.Rules.Verdict.{accepted}
use Rattle.original.specs.Rules.{original_work}
use Rattle.original.specs.Calls.{original_decoded, original_counts, CorrectedBuffer, corrected_buffer_by}
use Rattle.original_rows.specs.Rows.{buffer_rules}

unfoldable pub decode_sizes : Params → ℕ → ℕ → ℕ → ℕ → Verdict
decode_sizes s L k have work = buffer_rules s L k have then length_rule 6 work (original_work s L)

unfoldable pub decode_rules : Params → ℕ → ℕ → List ℕ → ℕ → Verdict
decode_rules s L k l work = decode_sizes s L k (length l) work then bit_rule 0 l

unfoldable pub decoded_buffer : Params → ℕ → ℕ → List ℕ → CorrectedBuffer
decoded_buffer s L k l = corrected_buffer_by accepted l (original_decoded s L k l).frame.info (original_counts s L k l)
