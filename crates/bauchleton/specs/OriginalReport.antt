-- What the encoder and the decoder of original staircase frames answer and leave for a host in C, with the report's place behind the others of rule 6.
--   original_sizes            rules 1, 2, 19, 4 and 6, of the encoder
--   original_encode_reported   its verdict and the buffer
--   original_decode_sizes      rules 1, 2, 19, 4, 5 and 6, of the decoder
--   original_decode_reported   its verdict, the buffer and the counts
--   corrected_buffer_answer    what the decoder reports
-- Assumes nothing.
use Rattle.std.specs.Prelude.{List, [], ◌∷◌, ℕ, length}
use Rattle.staircase.specs.Design.{Params, params}
use Rattle.staircase.specs.Rules.{Verdict, ◌then◌, count_rule, rounds_rule, length_rule, info_length, bit_rule}
use Rattle.original.specs.Frame.{encoded}
use Rattle.original.specs.Rules.{original_rules, info_bits, original_work}
use Rattle.original.specs.Calls.{Written, written_by, original_decoded, original_counts, CorrectedBuffer, corrected_buffer_by}
use Rattle.rules_verdict.specs.Number.{place_of}
use Rattle.bauchleton.specs.Report.{report_length}

-- ---- the encoder

unfoldable pub original_sizes : ℕ → ℕ → ℕ → ℕ → ℕ → Verdict
original_sizes m t M L have = original_rules m t M 0 then count_rule L then length_rule 4 have (info_length (params m t M 0) L)

unfoldable pub original_encode_reported : List ℕ → ℕ → ℕ → ℕ → ℕ → List ℕ → Written
original_encode_reported report m t M L l =
    written_by (original_sizes m t M L (length l) then report_length report then info_bits (params m t M 0) l) l (encoded (params m t M 0) L l)

-- ---- the decoder

unfoldable pub original_decode_sizes : ℕ → ℕ → ℕ → ℕ → ℕ → ℕ → ℕ → Verdict
original_decode_sizes m t M L k have work =
    let s : Params = params m t M 0 in
    original_rules m t M 0 then count_rule L then rounds_rule k then length_rule 4 have (info_length s L) then length_rule 6 work (original_work s L)

unfoldable pub original_decode_reported : List ℕ → ℕ → ℕ → ℕ → ℕ → ℕ → List ℕ → ℕ → CorrectedBuffer
original_decode_reported report m t M L k l work =
    let s : Params = params m t M 0 in
    corrected_buffer_by (original_decode_sizes m t M L k (length l) work then report_length report then bit_rule 0 l) l (original_decoded s L k l).frame.info
    (original_counts s L k l)

-- "place, rounds, turned, outside, stuck"
abbrev pub corrected_buffer_answer : CorrectedBuffer → List ℕ
corrected_buffer_answer c = place_of c.verdict ∷ c.counts.rounds ∷ c.counts.turned ∷ c.counts.outside ∷ c.counts.stuck ∷ []
