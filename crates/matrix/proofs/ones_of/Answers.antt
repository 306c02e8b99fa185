-- The sums fit a byte, and are those of `neighbours`.
use native.Mathlib.Omega.{arith}
use Rattle.matrix.proofs.Ones.{neighbours, neighbours_ones}
use Rattle.matrix.proofs.ones_of.Goals as goal

pub returns : goal.returns
unfolding neighbours
returns c = neighbours_ones c.args.v (omega arith)
