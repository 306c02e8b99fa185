use mathlib.Core.Path.{◌≡◌, refl, ap, ◌∙◌}
use Prim.Native.Nat.{ℕ, ◌+◌, ◌*◌}
use native.Mathlib.Omega.{arith}
use lib.Bits.{bit_xor}
use lib.ListN.{length, get_or}
use Rattle.bch.specs.Powers.{xor_sum}
use Rattle.bch_remainders.proofs.Powers.{xor_sum-more}
use Rattle.encoder_solution.proofs.product.row_sum.Goals as goal

pub loop-j-init : goal.loop-j-init
unfolding xor_sum
loop-j-init c = (omega arith, omega arith, refl)

pub loop-j-preserved : goal.loop-j-preserved
loop-j-preserved c =
    let a = c.args in
    let l = c.loop-j in (
      omega arith,
      omega arith,
      ap (bit_xor l.acc) c.entry-acc.ensures ∙ xor_sum-more l.j l.acc (λ k. get_or a.tables.now (256 * k + get_or a.row.now k 0) 0) l.invariant.2,
    )

pub returns : goal.returns
returns c =
    let a = c.args in
    let l = c.loop-j in
    let e : l.j ≡ length a.row.now = omega arith in
    l.invariant.2 ∙ ap (λ (n : ℕ). xor_sum n (λ k. get_or a.tables.now (256 * k + get_or a.row.now k 0) 0)) e
