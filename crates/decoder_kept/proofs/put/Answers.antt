use native.Mathlib.Omega.{arith}
use Rattle.decoder_kept.proofs.Numbers.{stored_only}
use Rattle.decoder_kept.proofs.put.Goals as goal

pub returns : goal.returns
returns c = stored_only _ _ _ _ _ _ _ (omega arith) (omega arith)
