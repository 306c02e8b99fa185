use mathlib.Core.Path.{refl, ap, ◌∙◌}
use Prim.Native.Nat.{◌+◌, ◌*◌}
use native.Mathlib.Omega.{arith}
use lib.Bits.{bit_xor}
use lib.ListN.{get_or}
use Rattle.bch.specs.Powers.{xor_sum}
use Rattle.bch_remainders.proofs.Powers.{xor_sum-more}
use Rattle.bch_remainders.proofs.Rows.{row_at}
use Rattle.words_sums.proofs.rows.tile_sum.Goals as goal

pub loop-c-init : goal.loop-c-init
unfolding xor_sum
loop-c-init c = (omega arith, refl)

pub loop-c-preserved : goal.loop-c-preserved
loop-c-preserved c =
    let a = c.args in
    let l = c.loop-c in
    let byte = (c.type_inv.turned (8 * l.c + a.i)).fits in (
      omega arith,
      ap (bit_xor l.x) (c.entry-x.ensures ∙ row_at a.tables.now (256 * l.c) 256 (get_or a.turned.now (8 * l.c + a.i) 0) byte)
          ∙ xor_sum-more l.c l.x (λ k. get_or a.tables.now (256 * k + get_or a.turned.now (8 * k + a.i) 0) 0) l.invariant.1,
    )
