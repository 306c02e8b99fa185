use native.Mathlib.Omega.{arith}
use Rattle.text.specs.KitSpelled.{pair_at, pairs_text}
use Rattle.text_kit_write.proofs.Adding.{written_none, written-room, written-more, written_all}
use Rattle.text_kit_write.proofs.Parts.{pair_is}
use Rattle.text_kit_write.proofs.lines.put_pairs.Goals as goal

pub loop-p-init : goal.loop-p-init
loop-p-init c =
    let a = c.args in
    (omega arith, written_none (pair_at a.n a.own.now a.parity.now) a.out.now a.at)

pub put_three-q-requires : goal.put_three-q-requires
unfolding pairs_text
put_three-q-requires c =
    let a = c.args in
    let l = c.loop-p in
    let h = c.loop-p-test.true in
    let line = pair_is a.n a.own.now a.parity.now l.p h c.entry-a.ensures.0 c.entry-b.ensures.0 in
    written-room (pair_at a.n a.own.now a.parity.now) a.out.now a.at l.out l.q l.p l.invariant.1 line a.n h
    c.requires.parity_in_bounds

pub loop-p-preserved : goal.loop-p-preserved
loop-p-preserved c =
    let h = c.loop-p-test.true in
    let l = c.loop-p in
    let a = c.args in
    let line = pair_is a.n a.own.now a.parity.now l.p h c.entry-a.ensures.0
    c.entry-b.ensures.0 in (
      omega arith,
      written-more (pair_at a.n a.own.now a.parity.now) a.out.now a.at l.out l.q l.p l.invariant.1 line
          (c.put_three-q.ensures.value, c.put_three-q.ensures.out_after),
    )

pub returns : goal.returns
unfolding pairs_text
returns c =
    let a = c.args in
    let l = c.loop-p in let t = written_all (pair_at a.n a.own.now a.parity.now) a.out.now a.at l.out l.q l.p l.invariant.1 a.n
    l.invariant.0
    c.loop-p-test.false in record { value = t.0; out_after = t.1 }
