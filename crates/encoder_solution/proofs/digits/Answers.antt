use mathlib.Core.Path.{◌∙◌}
use native.Mathlib.Omega.{arith}
use lib.ListN.{length-set}
use Rattle.staircase.proofs.Fill.{filled_none, filled_more, filled-all}
use Rattle.encoder_solution.proofs.digits.Goals as goal

pub loop-b-init : goal.loop-b-init
loop-b-init c = (omega arith, omega arith, omega arith, omega arith, filled_none _ _)

pub loop-b-preserved : goal.loop-b-preserved
loop-b-preserved c =
    let l = c.loop-b in
    (omega arith, omega arith, simp length-set (omega arith), omega arith, rw l.invariant.4 (filled_more _ _ _ (omega arith)))

pub returns : goal.returns
returns c =
    let l = c.loop-b in
    l.invariant.4 ∙ filled-all _ _ _ _ (omega arith) l.invariant.3
