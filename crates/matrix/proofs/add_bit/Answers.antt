-- The stored byte is the law of `packed_bit-add`.
use native.Mathlib.Omega.{arith}
use lib.ListN.{length-set}
use Rattle.matrix.proofs.Packed.{packed_bit-add}
use Rattle.matrix.proofs.add_bit.Goals as goal

pub returns : goal.returns
returns c = (simp length-set, λ j. packed_bit-add _ _ _ (omega arith) (omega arith) j)
