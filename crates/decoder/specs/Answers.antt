-- The rules on a frame that is to be decoded after the design's, and the decoder's result.
--   copy_rules        rules 4 to 7 and 10 for a frame that is to be decoded
--   window_numbers    rules 4, 5 and 18, on the numbers of a call with a window
--   corrected_frame   the result for a frame that no rule refuses
--   call_rules        the first check of a call, rules 4 to 7 and 10, and its last check
--   answered         the result of a call
-- Assumes nothing.
use Rattle.std.specs.Prelude.{List, ℕ}
use Rattle.staircase.specs.Design.{Params, Interleavers, params}
use Rattle.staircase.specs.Frame.{Frame, frame_of}
use Rattle.staircase.specs.Rules.{Verdict, ◌then◌, design_rules, count_rule, rounds_rule, interleavers}
use Rattle.staircase.specs.Rules.Verdict.{accepted}
use Rattle.staircase.specs.Calls.{Corrected, corrected_by}
use Rattle.staircase.specs.Window.{window_rule, windowed, window_counts}
use Rattle.answers.specs.Answers.{verdict_of}
use Rattle.rules.specs.Lengths.{decoder_due}
use Rattle.words.specs.Checks.{received_rules}
use Rattle.decoder.specs.declared.Call.{Call}

unfoldable pub copy_rules : Params → ℕ → ℕ → List ℕ → List ℕ → List ℕ → List ℕ → ℕ → Verdict
copy_rules s L k self parity info red work = received_rules s L k (decoder_due s L) self parity info red work

-- document 02: "18 window, after 5"
unfoldable pub window_numbers : ℕ → ℕ → ℕ → Verdict
window_numbers L k v = count_rule L then rounds_rule k then window_rule v

-- under a window of v groups, which may be all that the frame has
unfoldable pub corrected_frame : Params → Interleavers → ℕ → ℕ → ℕ → Frame → Corrected
corrected_frame s l L v k f = corrected_by accepted f (windowed s l L v k f).frame (window_counts s l L v k f)

abbrev pub call_rules : Call → Params → List ℕ → List ℕ → List ℕ → List ℕ → ℕ → Verdict
call_rules c s self parity info red work =
    verdict_of c.first then copy_rules s c.blocks c.rounds self parity info red work then verdict_of c.last

unfoldable pub answered : Call → List ℕ → List ℕ → List ℕ → List ℕ → ℕ → Corrected
answered c self parity info red work =
    let s : Params = params c.m c.t c.size c.col in
    let l : Interleavers = interleavers s self parity in
    let f : Frame = frame_of info red in
    corrected_by (design_rules c.m c.t c.size c.col then call_rules c s self parity info red work) f
    (windowed s l c.blocks c.window c.rounds f).frame (window_counts s l c.blocks c.window c.rounds f)
