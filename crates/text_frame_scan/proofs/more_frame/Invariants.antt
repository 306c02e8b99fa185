-- Behind so many lines `g` begins the group text, or the text goes on with the next block's line.
use Rattle.text.specs.FrameText.{frame_tail}
use Rattle.text_formats.specs.Items.{scan_at, verdict}
use Rattle.staircase.specs.Design.{most-blocks}
use mathlib.Core.Path.{◌≡◌}
use Prim.Native.Nat.{◌-◌}
use Rattle.text_frame_scan.proofs.more_frame.Given as goal

abbrev pub invariant-loop-blocks : goal.invariant-loop-blocks
invariant-loop-blocks l =
    verdict (scan_at (frame_tail l.area l.n (most-blocks - 1) 1) l.s l.at)
    ≡ verdict (scan_at (frame_tail l.area l.n (most-blocks - l.blocks) l.blocks) l.s l.q)
