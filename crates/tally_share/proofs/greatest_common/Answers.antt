use native.Mathlib.Omega.{arith}
use Rattle.staircase.proofs.Report.{same_step, same_end}
use Rattle.tally_share.proofs.greatest_common.Goals as goal

pub loop-y-preserved : goal.loop-y-preserved
loop-y-preserved c = same_step _ _ _ _ c.loop-y.invariant

pub returns : goal.returns
returns c = same_end _ _ _ _ c.requires (omega arith) c.loop-y.invariant
