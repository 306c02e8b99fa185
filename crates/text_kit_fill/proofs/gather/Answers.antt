use native.Mathlib.Omega.{arith}
use Rattle.text_kit_fill.proofs.Packing.{gather_none, gather_step}
use Rattle.text_kit_fill.proofs.gather.Goals as goal

pub loop-k-init : goal.loop-k-init
loop-k-init c = (omega arith, gather_none _ _ _ c.requires.c_bound c.requires.c_in_bounds)

pub loop-k-preserved : goal.loop-k-preserved
loop-k-preserved c =
    let a = c.args in
    let l = c.loop-k in
    gather_step a.s.now a.at a.c c.requires.c_bound c.requires.c_in_bounds l.k l.v _ c.loop-k-test.true l.auto.k l.invariant.1 c.from-b.ensures
