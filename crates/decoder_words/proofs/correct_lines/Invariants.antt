-- The loop's invariant: the lines before line `k + i` are corrected, `stuck` of their words were stuck, and all kept numbers are right.
use mathlib.Core.Path.{◌≡◌}
use Prim.Native.Nat.{◌+◌, ◌*◌, ◌≤◌}
use Rattle.staircase.specs.Lists.{tabulate, concat}
use Rattle.staircase.specs.Frame.{frame_of}
use Rattle.staircase.specs.Decoder.{round}
use Rattle.staircase.specs.Outcomes.{stuck_among}
use Rattle.design.specs.Sizes.{params_of}
use Rattle.decoder_lines.specs.Layouts.{layout_of}
use Rattle.decoder_words.specs.Ready.{FrameKept, LineMarks}
use Rattle.decoder_words.proofs.correct_lines.Given as goal

abbrev pub invariant-loop-i : goal.invariant-loop-i
invariant-loop-i l =
    (l.i ≤ l.count)
    × (record { frame = frame_of l.info l.red; flips = l.flips } ≡ round (params_of l.line.frames.d)
    (concat l.i (λ j. tabulate l.line.frames.d.size ((layout_of l.line.frames l.links).sites (l.line.k + j)))) (frame_of l.initial.info l.initial.red))
    × FrameKept l.line.frames l.links l.info l.red l.kept × (l.flips ≤ 1500 * l.i)
    × (l.stuck ≡ stuck_among (params_of l.line.frames.d) (frame_of l.initial.info l.initial.red)
    (concat l.i (λ j. tabulate l.line.frames.d.size ((layout_of l.line.frames l.links).sites (l.line.k + j)))))
    × (l.stuck ≤ 500 * l.i) × LineMarks l.line.frames l.initial.info l.initial.red l.initial.kept l.info l.red l.kept
