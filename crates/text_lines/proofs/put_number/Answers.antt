-- No number of 64 bits has more than twenty digits.
use native.Mathlib.Omega.{arith}
use Rattle.text_lines.proofs.Decimal.{dec-short}
use Rattle.text_lines.proofs.put_number.Goals as goal

pub put_digits-requires : goal.put_digits-requires
put_digits-requires c = omega (arith, dec-short c.args.v)
