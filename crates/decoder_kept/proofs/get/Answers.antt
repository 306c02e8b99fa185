use native.Mathlib.Omega.{arith}
use Rattle.decoder_kept.specs.Numbers.{kept_at}
use Rattle.decoder_kept.proofs.get.Goals as goal

pub returns : goal.returns
unfolding kept_at
returns c = omega (arith, c.from_le_bytes.ensures)
