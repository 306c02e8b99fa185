-- The line errors of a frame: the bits that the link turned, as a decoder counts them.
--   line_errors f g   in how many sent bits two frames differ
-- Assumes nothing.
use Rattle.std.specs.Prelude.{ℕ, ◌+◌}
use Rattle.bch.specs.Code.{distance}
use Rattle.staircase.specs.Frame.{Frame}

-- "the number of sent bits in which the mended frame differs from the copy"; a redundancy bit is one byte, so that it counts once
unfoldable pub line_errors : Frame → Frame → ℕ
line_errors f g = distance f.info g.info + distance f.red g.red
