use native.Mathlib.Omega.{arith}
use Rattle.text_lines.proofs.Decimal.{dec-short, dec_one_length, dec-more-length}
use Rattle.text_lines.proofs.digits.Goals as goal

pub overflow_add-n : goal.overflow_add-n
overflow_add-n c = omega (arith, dec-short c.args.v)

pub loop-x-preserved : goal.loop-x-preserved
loop-x-preserved c = (omega arith, omega (arith, dec-more-length c.loop-x.x c.loop-x-test.true c.loop-x.invariant.0))

pub returns : goal.returns
returns c = omega (arith, dec_one_length c.loop-x.x (omega arith))
