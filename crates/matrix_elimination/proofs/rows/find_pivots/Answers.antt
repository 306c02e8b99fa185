use native.Mathlib.Omega.{arith}
use Rattle.matrix_elimination.proofs.StepLaws.{steps_then}
use Rattle.matrix_elimination.proofs.rows.find_pivots.Goals as goal

pub loop-p-preserved : goal.loop-p-preserved
loop-p-preserved c =
    let a = c.args in
    let l = c.loop-p in
    let r = c.find_pivot-i in
    let s = c.place_pivot in (
      omega (arith, c.loop-p-test.true),
      steps_then a.n a.m.now r.new.m s.new.m
          (steps_then a.n a.m.now l.m r.new.m l.invariant.1 r.ensures.row_steps) s.ensures.row_steps,
      s.ensures.pivots,
    )
