-- Where twice v is below 2^r it is the answer; otherwise g is taken away once.
use mathlib.Core.Path.{sym}
use native.Mathlib.Omega.{arith}
use Rattle.bch.proofs.Modulus.{times_x-small}
use Rattle.bch_remainders.proofs.Powers.{times_x_over}
use Rattle.bch_remainders.proofs.times_x.Goals as goal

pub returns-then-w-top : goal.returns-then-w-top
returns-then-w-top c = let a = c.args in sym (times_x-small a.g a.r a.v (omega arith))

pub returns-else-w-top : goal.returns-else-w-top
returns-else-w-top c = let a = c.args in times_x_over a.g a.r a.v (omega arith) (omega arith)
