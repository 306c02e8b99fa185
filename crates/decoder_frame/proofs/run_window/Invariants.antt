-- The loop's invariant: the positions before `p` are made, and `stuck` are the stuck words of the last of their rounds.
use mathlib.Core.Path.{◌≡◌}
use Prim.Native.Nat.{ℕ, ◌+◌, ◌-◌, ◌*◌, ◌≤◌}
use Rattle.staircase.specs.Frame.{frame_of, groups}
use Rattle.staircase.specs.Window.{slide, slide_stuck}
use Rattle.design.specs.Sizes.{params_of}
use Rattle.layout.specs.Layouts.{feed_frames}
use Rattle.decoder_lines.specs.Links.{lists_in}
use Rattle.decoder_words.specs.Ready.{FrameKept, LineMarks}
use Rattle.decoder_frame.specs.Stretch.{read_window}
use Rattle.decoder_frame.proofs.run_window.Given as goal

abbrev pub invariant-loop-p : goal.invariant-loop-p
invariant-loop-p l =
    (l.count ≡ groups l.frames.blocks - l.window.groups + 1) × (l.count ≤ 2049) × (l.p ≤ l.count) × FrameKept (feed_frames l.frames.d l.frames.blocks) l.links l.info l.red l.kept
    × (l.rounds ≤ l.p * 64) × (l.flips ≤ l.p * 393408000)
    × (record { frame = frame_of l.info l.red; rounds = l.rounds; flips = l.flips }
    ≡ slide (read_window (params_of l.frames.d) (lists_in l.frames.d l.links) l.frames.blocks l.window.groups) l.p l.window.limit (frame_of l.initial.info l.initial.red))
    × ((q : ℕ) → l.p ≡ q + 1
    → l.stuck ≡ slide_stuck (read_window (params_of l.frames.d) (lists_in l.frames.d l.links) l.frames.blocks l.window.groups) q l.window.limit (frame_of l.initial.info l.initial.red))
    × LineMarks (feed_frames l.frames.d l.frames.blocks) l.initial.info l.initial.red l.initial.kept l.info l.red l.kept
