-- The loop's invariant: the rounds before `k` are made, and those that are left end as all do; the stuck words of the last round made are those of the
-- last round of these, or `stuck` where all are made.
use mathlib.Core.Path.{◌≡◌}
use Prim.Native.Nat.{◌-◌, ◌*◌, ◌≤◌}
use Rattle.staircase.specs.Frame.{frame_of}
use Rattle.staircase.specs.Decoder.{run_each}
use Rattle.staircase.specs.Outcomes.{last_stuck}
use Rattle.decoder_words.specs.Ready.{FrameKept, LineMarks}
use Rattle.decoder_frame.specs.Stretch.{stretch_words}
use Rattle.decoder_frame.proofs.Limit.{after, Last}
use Rattle.decoder_frame.proofs.run_rounds.Given as goal

abbrev pub invariant-loop-k : goal.invariant-loop-k
invariant-loop-k l =
    (l.lines ≤ 4098) × (l.k ≤ l.limit) × FrameKept l.line.frames l.links l.info l.red l.kept × (l.flips ≤ l.k * 6147000)
    × (run_each (stretch_words l.line l.links l.lines) l.limit (frame_of l.initial.info l.initial.red) ≡ after l.k l.flips (run_each (stretch_words l.line l.links l.lines) (l.limit - l.k) (frame_of l.info l.red)))
    × Last (stretch_words l.line l.links l.lines) (last_stuck (stretch_words l.line l.links l.lines) l.limit (frame_of l.initial.info l.initial.red)) l.limit l.k l.stuck (frame_of l.info l.red)
    × LineMarks l.line.frames l.initial.info l.initial.red l.initial.kept l.info l.red l.kept
