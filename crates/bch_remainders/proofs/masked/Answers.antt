-- The mask leaves x or nothing of it.
use native.Mathlib.Omega.{arith}
use Rattle.bch_remainders.proofs.Powers.{spread-bit}
use Rattle.bch_remainders.proofs.masked.Goals as goal

pub returns : goal.returns
returns c = spread-bit c.args.b c.args.x c.requires (omega arith)
