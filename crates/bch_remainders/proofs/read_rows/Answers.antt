use mathlib.Core.Path.{sym, refl, ap, ◌∙◌}
use Prim.Native.Nat.{ℕ, ◌+◌, ◌*◌}
use native.Mathlib.Omega.{arith}
use lib.ListN.{length, get_or}
use Rattle.bch.specs.Powers.{xor_sum}
use Rattle.bch.proofs.Sum.{⊕-zero-right}
use Rattle.bch_remainders.proofs.Rows.{row_at, column-more}
use Rattle.bch_remainders.proofs.read_rows.Goals as goal

pub loop-j-init : goal.loop-j-init
unfolding xor_sum
loop-j-init c = (refl, refl, λ a h. sym (⊕-zero-right _))

pub loop-j-preserved : goal.loop-j-preserved
loop-j-preserved c =
    let a = c.args in
    let l = c.loop-j in
    let w = length a.acc.now in
    let e = c.add_bits.ensures in (
      omega arith,
      e.0 ∙ l.invariant.1,
      λ k h. e.1 k (omega arith)
          ∙ column-more l.j _ _ _ (λ i. get_or a.block.now (i * w + k) 0 * get_or a.part.now i 0)
          (l.invariant.2 k h) (ap (λ (b : ℕ). b * get_or a.part.now l.j 0) (row_at a.block.now (l.j * w) w k h)),
    )
