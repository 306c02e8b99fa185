-- After i lines the text ends there, or goes on with the line of block i + 1.
use Rattle.text.specs.FrameText.{block_tail}
use Rattle.text_formats.specs.Items.{scan_at, verdict}
use Rattle.staircase.specs.Design.{most-blocks}
use mathlib.Core.Path.{◌≡◌}
use Prim.Native.Nat.{◌-◌}
use Rattle.text_frame_scan.proofs.more_blocks.Given as goal

abbrev pub invariant-loop-i : goal.invariant-loop-i
invariant-loop-i l =
    verdict (scan_at (block_tail l.area (most-blocks - 1) 1) l.s l.at) ≡ verdict (scan_at (block_tail l.area (most-blocks - l.i) l.i) l.s l.q)
