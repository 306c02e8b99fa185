-- The loop's invariant: the words before `a` are corrected, `stuck` of them were stuck, and all kept numbers are right.
use mathlib.Core.Path.{◌≡◌}
use Prim.Native.Nat.{◌≤◌}
use Rattle.staircase.specs.Lists.{tabulate}
use Rattle.staircase.specs.Frame.{frame_of}
use Rattle.staircase.specs.Decoder.{round}
use Rattle.staircase.specs.Outcomes.{stuck_among}
use Rattle.design.specs.Sizes.{params_of}
use Rattle.decoder_words.specs.Ready.{FrameKept, LineMarks}
use Rattle.decoder_lines.specs.Layouts.{line_word}
use Rattle.decoder_words.proofs.correct_line.Given as goal

abbrev pub invariant-loop-a : goal.invariant-loop-a
invariant-loop-a l =
    (l.size ≡ l.line.frames.d.size) × (l.a ≤ l.line.frames.d.size)
    × (record { frame = frame_of l.info l.red; flips = l.flips } ≡ round (params_of l.line.frames.d) (tabulate l.a (line_word l.line l.links)) (frame_of l.initial.info l.initial.red))
    × FrameKept l.line.frames l.links l.info l.red l.kept
    × (l.stuck ≡ stuck_among (params_of l.line.frames.d) (frame_of l.initial.info l.initial.red) (tabulate l.a (line_word l.line l.links))) × (l.stuck ≤ l.a)
    × LineMarks l.line.frames l.initial.info l.initial.red l.initial.kept l.info l.red l.kept
