-- A refused design decides; otherwise rules 4 and 6 do, for the sizes that the design was made from.
use mathlib.Core.Path.{refl}
use Rattle.show.proofs.Shown.{design-refuses, frame_decides}
use Rattle.show.proofs.check_show_col.Goals as goal

pub returns-in_err-d : goal.returns-in_err-d
returns-in_err-d c = design-refuses _ _ _ _ _ _ _ _ c.in_err-d.ensures.0 _ refl c.from_residual.ensures

pub returns : goal.returns
returns c = let n = c.in_ok-d.ensures in frame_decides _ _ _ _ _ _ _ _ n.0 n.1 refl _ c.check_frame.ensures
