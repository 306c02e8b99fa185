use mathlib.Core.Path.{◌∙◌}
use native.Mathlib.Nat.{mul_comm}
use native.Mathlib.Omega.{arith}
use lib.ListN.{length-set}
use Rattle.staircase.proofs.Fill.{filled_none, filled_more, filled-all}
use Rattle.encoder_solution.proofs.Stack.{stack-entry}
use Rattle.encoder_solution.proofs.transpose.Goals as goal

pub loop-k-init : goal.loop-k-init
loop-k-init c = (omega arith, omega arith, omega arith, omega arith, filled_none _ _)

pub overflow_mul-entry : goal.overflow_mul-entry
overflow_mul-entry c =
    let a = c.args in
    let p = stack-entry a.n a.m c.loop-k.k (omega arith) (omega arith) in
    omega (arith, p, mul_comm a.m a.n)

pub overflow_add-entry : goal.overflow_add-entry
overflow_add-entry c =
    let a = c.args in
    let p = stack-entry a.n a.m c.loop-k.k (omega arith) (omega arith) in
    omega (arith, p, mul_comm a.m a.n)

pub offset_bounds-from-k : goal.offset_bounds-from-k
offset_bounds-from-k c =
    let a = c.args in
    let p = stack-entry a.n a.m c.loop-k.k (omega arith) (omega arith) in
    omega (arith, p, mul_comm a.m a.n)

pub bounds-from-k : goal.bounds-from-k
bounds-from-k c =
    let a = c.args in
    let p = stack-entry a.n a.m c.loop-k.k (omega arith) (omega arith) in
    omega (arith, p, mul_comm a.m a.n)

pub loop-k-preserved : goal.loop-k-preserved
loop-k-preserved c =
    let l = c.loop-k in
    (omega arith, omega arith, simp length-set (omega arith), omega arith, rw l.invariant.4 (filled_more _ _ _ (omega arith)))

pub returns : goal.returns
returns c =
    let l = c.loop-k in
    l.invariant.4 ∙ filled-all _ _ _ _ (omega arith) l.invariant.3
