-- Document 02, U10: the 40 bytes that a host in C lends to the kit checker, to the encoders and to the decoders, and what these calls answer and leave. They
-- have place 8 in rule 6: behind the places of a call's other slices, and before the rules on bytes.
--   eight_bytes, report_bytes     a number, and some numbers, as bytes
--   check_report                 what a call without counts reports
--   report_length                place 8 of rule 6
--   lent_length                  what the code lends on: a step, which no promise names
--   kit_sizes, kit_reported       the kit checker: its rules up to 6, and its verdict
--   encode_sizes, encode_reported   the encoder: its rules up to 6, and its call
--   batch_sizes, batch_reported   the encoder of several frames
--   numbers_for, bytes_for, decode_reported   the decoder: its rules up to 6, those behind them, and its call
--   window_numbers_for, window_call_of, window_reported   the decoder with a window
-- Assumes nothing.
use Rattle.std.specs.Prelude.{cond, List, [], ◌∷◌, ◌++◌, ℕ, ◌/◌, ◌%◌, ◌^◌, eqb, length}
use Rattle.staircase.specs.Lists.{tabulate}
use Rattle.staircase.specs.Design.{Params, params}
use Rattle.staircase.specs.Frame.{frame_of}
use Rattle.staircase.specs.System.{redundancy}
use Rattle.staircase.specs.Rules.{Verdict, ◌then◌, design_rules, count_rule, rounds_rule, length_rule, list_lengths, kit_lengths, frame_lengths, kit_work, decoder_work, interleavers, list_rule, kit_rules, content_rules, frame_bits}
use Rattle.staircase.specs.Calls.{Encoded, encoded_by, Corrected, corrected_by}
use Rattle.staircase.specs.Batch.{batch_rule, batch_lengths, batch_redundancy}
use Rattle.staircase.specs.Window.{window_rule, window_call}
use Rattle.staircase.specs.Tally.{Decode, call_of}
use Rattle.rules_verdict.specs.Number.{place_of}

-- "five numbers of eight bytes, low byte first"
unfoldable pub eight_bytes : ℕ → List ℕ
eight_bytes n = tabulate 8 (λ k. n / 256 ^ k % 256)

unfoldable pub report_bytes : List ℕ → List ℕ
report_bytes [] = []
report_bytes (n ∷ ns) = eight_bytes n ++ report_bytes ns

-- "place, rounds, turned, outside, stuck, 0 for what it lacks"
abbrev pub check_report : Verdict → List ℕ
check_report v = place_of v ∷ 0 ∷ 0 ∷ 0 ∷ 0 ∷ []

-- "These bytes are place 8 of rule 6"
abbrev pub report_length : List ℕ → Verdict
report_length report = length_rule 8 (length report) 40

-- what a call lends on of n bytes: none where its report has another length, so that it refuses by rule 6 at the latest
unfoldable pub lent_length : ℕ → ℕ → ℕ
lent_length report n = cond (eqb report 40) n 0

-- ---- the kit checker

-- rules 1 to 3 and 6
unfoldable pub kit_sizes : ℕ → ℕ → ℕ → List ℕ → List ℕ → List ℕ → ℕ → Verdict
kit_sizes m t M self parity w work =
    let s : Params = params m t M 0 in
    design_rules m t M 0 then kit_lengths s self parity w then length_rule 6 work (kit_work s)

unfoldable pub kit_reported : List ℕ → ℕ → ℕ → ℕ → List ℕ → List ℕ → List ℕ → ℕ → Verdict
kit_reported report m t M self parity w work =
    let s : Params = params m t M 0 in
    kit_sizes m t M self parity w work then report_length report then kit_rules s (interleavers s self parity) w

-- ---- the encoders

-- rules 1 to 4 and 6
unfoldable pub encode_sizes : ℕ → ℕ → ℕ → ℕ → List ℕ → List ℕ → List ℕ → List ℕ → List ℕ → ℕ → Verdict
encode_sizes m t M L self parity w info red work =
    let s : Params = params m t M 0 in
    design_rules m t M 0 then count_rule L then kit_lengths s self parity w then frame_lengths s L info red then length_rule 6 work (kit_work s)

unfoldable pub encode_reported : List ℕ → ℕ → ℕ → ℕ → ℕ → List ℕ → List ℕ → List ℕ → List ℕ → List ℕ → ℕ → Encoded
encode_reported report m t M L self parity w info red work =
    let s : Params = params m t M 0 in
    encoded_by (encode_sizes m t M L self parity w info red work then report_length report then content_rules s (interleavers s self parity) w info) red
    (redundancy s (interleavers s self parity) w L info)

-- rules 1 to 4, 17 and 6
unfoldable pub batch_sizes : ℕ → ℕ → ℕ → ℕ → ℕ → List ℕ → List ℕ → List ℕ → List ℕ → List ℕ → ℕ → Verdict
batch_sizes m t M L n self parity w info red work =
    let s : Params = params m t M 0 in
    design_rules m t M 0 then count_rule L then batch_rule n
    then kit_lengths s self parity w then batch_lengths s L n info red then length_rule 6 work (kit_work s)

unfoldable pub batch_reported : List ℕ → ℕ → ℕ → ℕ → ℕ → ℕ → List ℕ → List ℕ → List ℕ → List ℕ → List ℕ → ℕ → Encoded
batch_reported report m t M L n self parity w info red work =
    let s : Params = params m t M 0 in
    encoded_by (batch_sizes m t M L n self parity w info red work then report_length report then content_rules s (interleavers s self parity) w info) red
    (batch_redundancy s (interleavers s self parity) w L n info)

-- ---- the decoders

-- rules 1 to 6
unfoldable pub numbers_for : Decode → Verdict
numbers_for x =
    let s : Params = params x.m x.t x.M x.col in
    design_rules x.m x.t x.M x.col then count_rule x.L then rounds_rule x.rounds
    then list_lengths s x.self x.parity then frame_lengths s x.L x.info x.red then length_rule 6 x.work (decoder_work s x.L)

-- rules 7 and 10
unfoldable pub bytes_for : Decode → Verdict
bytes_for x =
    let s : Params = params x.m x.t x.M x.col in
    list_rule s (interleavers s x.self x.parity) then frame_bits x.info x.red

unfoldable pub decode_reported : List ℕ → Decode → Corrected
decode_reported report x =
    corrected_by (numbers_for x then report_length report then bytes_for x) (frame_of x.info x.red) (call_of x).frame (call_of x).counts

-- rules 1 to 5, 18 and 6
unfoldable pub window_numbers_for : ℕ → Decode → Verdict
window_numbers_for v x =
    let s : Params = params x.m x.t x.M x.col in
    design_rules x.m x.t x.M x.col then count_rule x.L then rounds_rule x.rounds then window_rule v
    then list_lengths s x.self x.parity then frame_lengths s x.L x.info x.red then length_rule 6 x.work (decoder_work s x.L)

-- the decoder's call with a window of v groups
abbrev pub window_call_of : ℕ → Decode → Corrected
window_call_of v x = window_call x.m x.t x.M x.col x.L x.rounds v x.self x.parity x.info x.red x.work

unfoldable pub window_reported : List ℕ → ℕ → Decode → Corrected
window_reported report v x =
    corrected_by (window_numbers_for v x then report_length report then bytes_for x) (frame_of x.info x.red) (window_call_of v x).frame
    (window_call_of v x).counts
