-- Laws of the line errors.
--   line_errors-same      a frame has none beside itself
--   line_errors-bound     there are no more than bytes in the buffers
--   line_errors_comm      either frame may come first
-- Assumes nothing.
use mathlib.Core.Path.{◌≡◌, ap₂}
use Prim.Native.Nat.{◌+◌, ◌≤◌}
use native.Mathlib.Omega.{arith}
use lib.ListN.{length}
use Rattle.bch.proofs.Distance.{distance_self, distance-bound, distance_comm}
use Rattle.staircase.specs.Frame.{Frame}
use Rattle.staircase.specs.LineErrors.{line_errors}

pub line_errors-same : (f : Frame) → line_errors f f ≡ 0
unfolding line_errors
line_errors-same f = omega (arith, distance_self f.info, distance_self f.red)

pub line_errors-bound : (f g : Frame) → line_errors f g ≤ length f.info + length f.red
unfolding line_errors
line_errors-bound f g = omega (arith, distance-bound f.info g.info, distance-bound f.red g.red)

pub line_errors_comm : (f g : Frame) → line_errors f g ≡ line_errors g f
unfolding line_errors
line_errors_comm f g = ap₂ ◌+◌ (distance_comm f.info g.info) (distance_comm f.red g.red)
