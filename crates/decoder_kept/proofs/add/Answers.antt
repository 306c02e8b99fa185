use mathlib.Core.Path.{subst}
use Prim.Native.Nat.{ℕ, ◌%◌}
use lib.Bits.{bit_xor}
use Rattle.bch.specs.Polynomial.{◌⊕◌}
use Rattle.decoder_kept.specs.Numbers.{OnlyAt}
use Rattle.decoder_kept.proofs.add.Goals as goal

pub returns : goal.returns
unfolding ◌⊕◌
returns c =
    subst (λ (z : ℕ). OnlyAt c.args.kept.now c.put.new.kept c.args.k (bit_xor (z % 2147483648) c.args.x))
    c.get-v.ensures c.put.ensures
