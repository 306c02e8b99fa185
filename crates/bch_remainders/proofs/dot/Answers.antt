use mathlib.Core.Path.{◌≡◌, refl, ap, ◌∙◌}
use Prim.Native.Nat.{ℕ, ◌*◌}
use native.Mathlib.Omega.{arith}
use lib.Bits.{bit_xor}
use lib.ListN.{length, get_or}
use Rattle.bch.specs.Powers.{xor_sum}
use Rattle.bch_remainders.proofs.Powers.{xor_sum-more}
use Rattle.bch_remainders.proofs.dot.Goals as goal

pub loop-j-init : goal.loop-j-init
unfolding xor_sum
loop-j-init c = (refl, refl)

pub loop-j-preserved : goal.loop-j-preserved
loop-j-preserved c =
    let a = c.args in
    let l = c.loop-j in (
      omega arith,
      ap (bit_xor l.acc) c.masked-acc.ensures ∙ xor_sum-more l.j l.acc (λ k. get_or a.bits.now k 0 * get_or a.part.now k 0) l.invariant.1,
    )

pub returns : goal.returns
returns c =
    let a = c.args in
    let l = c.loop-j in
    let e : l.j ≡ length a.bits.now = omega arith in
    (l.invariant.1 ∙ ap (λ (n : ℕ). xor_sum n (λ k. get_or a.bits.now k 0 * get_or a.part.now k 0)) e, omega arith)
