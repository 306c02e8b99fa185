-- The loopback: a frame is encoded, the link turns bits of it, and what it delivers is decoded.
--   turned            a buffer with the bits turned that a pattern names
--   number_rules       rules 1 to 5
--   loopback_work      the working length
--   loopback_verdict   rules 1 to 10, in rising order but for 10 before 9
--   loopback_call      what the loopback answers and leaves
-- Assumes nothing.
use Rattle.std.specs.Prelude.{cond, List, ℕ, ◌+◌, ◌-◌, eqb, length, get_or}
use Rattle.staircase.specs.Lists.{tabulate}
use Rattle.staircase.specs.Design.{Params, Interleavers, params}
use Rattle.staircase.specs.Frame.{Frame, frame_of}
use Rattle.staircase.specs.System.{redundancy}
use Rattle.staircase.specs.Decoder.{decoded}
use Rattle.staircase.specs.Rules.{Verdict, ◌then◌, design_rules, count_rule, rounds_rule, length_rule, kit_lengths, frame_lengths, kit_work, kept_work, interleavers, content_rules}
use Rattle.staircase.specs.Calls.{counts_of, Corrected, corrected_by}

-- "with any of their bits turned": byte k of the pattern turns bit k unless it is 0; what the pattern is too short to name stays
unfoldable pub turned : List ℕ → List ℕ → List ℕ
turned errors b = tabulate (length b) (λ k. cond (eqb (get_or errors k 0) 0) (get_or b k 0) (1 - get_or b k 0))

unfoldable pub number_rules : ℕ → ℕ → ℕ → ℕ → ℕ → ℕ → Verdict
number_rules m t M col L k = design_rules m t M col then count_rule L then rounds_rule k

-- the encoder's, and what the decoder keeps
unfoldable pub loopback_work : Params → ℕ → ℕ
loopback_work s L = kit_work s + kept_work s L

-- "Checks run in rising order": the decoder's rule 5 among those of the encoder, and before anything is written
unfoldable pub loopback_verdict : ℕ → ℕ → ℕ → ℕ → ℕ → ℕ → List ℕ → List ℕ → List ℕ → List ℕ → List ℕ → ℕ → Verdict
loopback_verdict m t M col L k self parity w info red work =
    let s : Params = params m t M col in
    number_rules m t M col L k
    then kit_lengths s self parity w then frame_lengths s L info red then length_rule 6 work (loopback_work s L)
    then content_rules s (interleavers s self parity) w info

-- the result is the decoder's, on the encoder's frame with the named bits turned; a refused call leaves both buffers as they were
unfoldable pub loopback_call : ℕ → ℕ → ℕ → ℕ → ℕ → ℕ → List ℕ → List ℕ → List ℕ → List ℕ → List ℕ → List ℕ → List ℕ → ℕ → Corrected
loopback_call m t M col L k self parity w info_errors red_errors info red work =
    let s : Params = params m t M col in
    let l : Interleavers = interleavers s self parity in
    let received : Frame = frame_of (turned info_errors info) (turned red_errors (redundancy s l w L info)) in
    corrected_by (loopback_verdict m t M col L k self parity w info red work) (frame_of info red) (decoded s l L k received).frame (counts_of s l L k received)
