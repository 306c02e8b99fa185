use mathlib.Core.Path.{◌≡◌, ◌∙◌}
use native.Mathlib.Omega.{arith}
use lib.ListN.{length, replicate}
use Rattle.matrix.proofs.Product.{masked_none, masked_more, masked_skip}
use Rattle.matrix.proofs.mask_rows.Goals as goal
use Rattle.matrix.proofs.mask_rows.Goals.{then-v-ne0, else-v-ne0}

pub loop-b-init : goal.loop-b-init
loop-b-init c =
    let a = c.args in
    let k : length a.acc.now ≡ a.n = omega arith in
    let e : c.fill.new.self ≡ replicate a.n 0 = rw k at (c.fill.ensures.after (λ y h. h)) in
    (omega arith, rw e (masked_none a.row.now a.t.now a.n))

pub loop-b-preserved : goal.loop-b-preserved
loop-b-preserved c =
    let a = c.args in
    let l = c.loop-b in (
      elim c.if-v-ne0.branch [ then-v-ne0 w ↦ rw w.acc-is (w.mask_in.ensures.0 ∙ l.invariant.0) | else-v-ne0 w ↦ rw w.acc-is l.invariant.0 ],
      elim c.if-v-ne0.branch [
        | then-v-ne0 w ↦
            rw w.acc-is
            (masked_more a.row.now a.t.now a.n l.acc l.b l.invariant.1 _ (c.type_inv.row l.b).fits (λ x h. w.mask_in.ensures.1 x (omega arith)))
        | else-v-ne0 w ↦ rw w.acc-is (masked_skip a.row.now a.t.now a.n l.acc l.b l.invariant.1 w.if-v-ne0.false)
      ],
    )
