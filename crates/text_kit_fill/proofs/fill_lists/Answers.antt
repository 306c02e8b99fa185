use Rattle.text_kit_fill.proofs.Filling.{filled_start, filled_there, filled_next, filled-own, filled-parity}
use Rattle.text_kit_fill.proofs.fill_lists.Goals as goal

pub loop-p-init : goal.loop-p-init
loop-p-init c = filled_start _ _ _ _ _

pub unwrap-a-requires : goal.unwrap-a-requires
unwrap-a-requires c =
    let r = c.requires in
    filled_there _ _ _ _ _ r.own_len r.parity_len _ _ _ _ c.loop-p.invariant c.loop-p-test.true _ c.pair_line.ensures r.passes

pub loop-p-preserved : goal.loop-p-preserved
loop-p-preserved c =
    let r = c.requires in
    filled_next _ _ _ _ _ r.own_len r.parity_len _ _ _ _ c.loop-p.invariant c.loop-p-test.true _ c.pair_line.ensures _ _ _ c.unwrap-a.ensures _ _
    c.put_entry.ensures c.put_entry-in-loop-p.ensures

pub returns : goal.returns
returns c =
    let r = c.requires in
    record {
      own_after = filled-own _ _ _ _ _ r.own_len r.parity_len _ _ _ _ c.loop-p.invariant c.loop-p-test.false;
      parity_after = filled-parity _ _ _ _ _ r.own_len r.parity_len _ _ _ _ c.loop-p.invariant c.loop-p-test.false;
    }
