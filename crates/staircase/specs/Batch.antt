-- Document 02, U9: frames of one length under one kit, in one call. Their information is joined, frame after frame, and so is their redundancy.
--   most-frames      the limit
--   batch_rule        rule 17
--   batch_lengths     rule 6 for the joined buffers
--   batch_verdict     rules 1 to 4, 17, 6, 7, 8, 10 and 9
--   frame_at          the stretch of one frame
--   batch_redundancy  the redundancy of all frames
--   batch_call        the verdict, and the redundancy buffer
-- Assumes nothing.
use Rattle.std.specs.Prelude.{List, ℕ, ◌*◌, length, take, drop}
use Rattle.staircase.specs.Lists.{concat}
use Rattle.staircase.specs.Design.{Params, Interleavers, params}
use Rattle.staircase.specs.System.{redundancy}
use Rattle.staircase.specs.Rules.{Verdict, ◌then◌, refuse, out_of_range, design_rules, count_rule, length_rule, kit_lengths, info_length, red_length, kit_work, interleavers, content_rules}
use Rattle.staircase.specs.Calls.{Encoded, encoded_by}

-- "up to 256 frames of one length"
abbrev pub most-frames : ℕ
most-frames = 256

-- "17 batch, after 4, when the number of frames is 0 or above 256; the place is that number"
unfoldable pub batch_rule : ℕ → Verdict
batch_rule n = refuse (out_of_range 1 most-frames n) 17 n

-- "Rule 6 measures the joined buffers"
unfoldable pub batch_lengths : Params → ℕ → ℕ → List ℕ → List ℕ → Verdict
batch_lengths s L n info red = length_rule 4 (length info) (n * info_length s L) then length_rule 5 (length red) (n * red_length s L)

-- "check the kit a single time for all"; "rule 10's place is counted over the joined information"
unfoldable pub batch_verdict : ℕ → ℕ → ℕ → ℕ → ℕ → ℕ → List ℕ → List ℕ → List ℕ → List ℕ → List ℕ → ℕ → Verdict
batch_verdict m t M col L n self parity w info red work =
    let s : Params = params m t M col in
    design_rules m t M col then count_rule L then batch_rule n
    then kit_lengths s self parity w then batch_lengths s L n info red then length_rule 6 work (kit_work s)
    then content_rules s (interleavers s self parity) w info

-- the stretch that f stretches of one length precede
abbrev pub frame_at : ℕ → List ℕ → ℕ → List ℕ
frame_at long joined f = take long (drop (f * long) joined)

-- "every frame is encoded as it would be alone"
unfoldable pub batch_redundancy : Params → Interleavers → List ℕ → ℕ → ℕ → List ℕ → List ℕ
batch_redundancy s l w L n info = concat n (λ f. redundancy s l w L (frame_at (info_length s L) info f))

-- "or none is touched"
unfoldable pub batch_call : ℕ → ℕ → ℕ → ℕ → ℕ → ℕ → List ℕ → List ℕ → List ℕ → List ℕ → List ℕ → ℕ → Encoded
batch_call m t M col L n self parity w info red work =
    let s : Params = params m t M col in
    encoded_by (batch_verdict m t M col L n self parity w info red work) red (batch_redundancy s (interleavers s self parity) w L n info)
