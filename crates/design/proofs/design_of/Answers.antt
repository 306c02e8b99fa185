-- What rule 1 accepts fits the fields.
use native.Mathlib.Omega.{arith}
use Rattle.design.proofs.Sizes.{sizes}
use Rattle.design.proofs.design_of.Goals as goal

pub overflow_cast-result : goal.overflow_cast-result
overflow_cast-result c = let a = c.args in omega (arith, sizes a.m a.t a.size a.col c.requires)

pub overflow_cast-result-2 : goal.overflow_cast-result-2
overflow_cast-result-2 c = let a = c.args in omega (arith, sizes a.m a.t a.size a.col c.requires)

pub overflow_cast-result-3 : goal.overflow_cast-result-3
overflow_cast-result-3 c = let a = c.args in omega (arith, sizes a.m a.t a.size a.col c.requires)

pub overflow_cast-result-4 : goal.overflow_cast-result-4
overflow_cast-result-4 c = let a = c.args in omega (arith, sizes a.m a.t a.size a.col c.requires)
