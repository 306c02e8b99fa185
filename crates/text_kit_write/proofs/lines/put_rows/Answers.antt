use native.Mathlib.Omega.{arith}
use mathlib.Core.Path.{refl}
use Rattle.text.specs.KitSpelled.{row_text, rows_text}
use Rattle.text_kit_write.proofs.Adding.{written_none, written-room, written-more, written_all}
use Rattle.text_kit_write.proofs.lines.put_rows.Goals as goal

pub loop-i-init : goal.loop-i-init
loop-i-init c = let a = c.args in (omega arith, written_none (row_text a.n a.inverse.now) a.out.now a.at)

pub put_row-q-requires : goal.put_row-q-requires
unfolding rows_text
put_row-q-requires c =
    let a = c.args in
    let p = c.requires in
    let l = c.loop-i in
    let h = c.loop-i-test.true in
    let room = written-room (row_text a.n a.inverse.now) a.out.now a.at l.out l.q l.i l.invariant.1 refl a.n h p.inverse_in_bounds in record {
      inverse_len = (p.inverse_len.0, p.inverse_len.1, h);
      row_in_bounds = room;
    }

pub loop-i-preserved : goal.loop-i-preserved
loop-i-preserved c =
    let a = c.args in
    let l = c.loop-i in (
      omega arith,
      written-more (row_text a.n a.inverse.now) a.out.now a.at l.out l.q l.i l.invariant.1 refl
          (c.put_row-q.ensures.value, c.put_row-q.ensures.out_after),
    )

pub returns : goal.returns
unfolding rows_text
returns c =
    let a = c.args in
    let l = c.loop-i in let t = written_all (row_text a.n a.inverse.now) a.out.now a.at l.out l.q l.i l.invariant.1 a.n l.invariant.0 c.loop-i-test.false in record { value = t.0; out_after = t.1 }
