use native.Mathlib.Omega.{arith}
use mathlib.Core.Path.{ap, ◌∙◌}
use lib.ListN.{length}
use Rattle.text.specs.KitSpelled.{pair_at, pairs_text}
use Rattle.text_kit_write.proofs.Adding.{summed_none, summed_more, summed_all}
use Rattle.text_kit_write.proofs.Parts.{pair_is}
use Rattle.text_kit_write.proofs.lengths.pairs_length.Goals as goal

pub loop-p-init : goal.loop-p-init
loop-p-init c = let a = c.args in (omega arith, summed_none (pair_at a.n a.own.now a.parity.now) 63)

pub loop-p-preserved : goal.loop-p-preserved
loop-p-preserved c =
    let h = c.loop-p-test.true in
    let l = c.loop-p in
    let a = c.args in
    let x = c.three_length-sum in
    let line = pair_is a.n a.own.now a.parity.now l.p h c.entry-a.ensures.0 c.entry-b.ensures.0 in (
      omega arith,
      summed_more (pair_at a.n a.own.now a.parity.now) 63 l.sum l.p x.result l.invariant.1 (x.ensures.0 ∙ ap length line)
          x.ensures.1,
    )

pub returns : goal.returns
unfolding pairs_text
returns c =
    let a = c.args in
    let l = c.loop-p in
    let r = summed_all (pair_at a.n a.own.now a.parity.now) 63 l.sum l.p a.n l.invariant.1 l.invariant.0 c.loop-p-test.false in
    (r.0, omega (arith, r.1))
