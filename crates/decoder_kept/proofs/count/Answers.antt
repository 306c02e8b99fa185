use native.Mathlib.Omega.{arith}
use Rattle.decoder_kept.proofs.Numbers.{nonzero_none, nonzero_more, nonzero_same}
use Rattle.decoder_kept.proofs.count.Goals as goal
use Rattle.decoder_kept.proofs.count.Goals.{then-number-ne0, else-number-ne0}

pub loop-k-init : goal.loop-k-init
loop-k-init c = (omega arith, nonzero_none c.args.kept.now)

pub loop-k-preserved : goal.loop-k-preserved
loop-k-preserved c =
    let b = c.args.kept.now in
    let k = c.loop-k.k in
    elim c.if-number-ne0.branch [
      | then-number-ne0 w ↦ (omega arith, omega (arith, nonzero_more b k (λ z. w.if-number-ne0.true (omega (arith, z)))))
      | else-number-ne0 w ↦ (omega arith, omega (arith, nonzero_same b k (omega arith)))
    ]
