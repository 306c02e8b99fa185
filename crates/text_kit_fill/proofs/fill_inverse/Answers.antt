use native.Mathlib.Omega.{arith}
use Rattle.staircase.specs.System.{row_bytes}
use Rattle.staircase.proofs.Bounds.{stretch-end}
use Rattle.text_kit_fill.proofs.RowFilling.{packed_start, packed-line, packed_next, packed_all}
use Rattle.text_kit_fill.proofs.fill_inverse.Goals as goal

pub loop-p-init : goal.loop-p-init
loop-p-init c = packed_start _ _ _ _

pub fill_row-q-requires : goal.fill_row-q-requires
fill_row-q-requires c =
    let r = c.requires in
    record {
      p_bound = omega arith;
      passes = packed-line _ _ _ _ r.n_le_most_order r.inverse_len _ _ _ c.loop-p.invariant c.loop-p-test.true r.passes;
      n_in_bounds = omega (arith, c.loop-p.auto.inverse, stretch-end _ _ (row_bytes c.args.n) c.loop-p-test.true, r.inverse_len);
    }

pub loop-p-preserved : goal.loop-p-preserved
loop-p-preserved c =
    let r = c.requires in
    packed_next _ _ _ _ r.n_le_most_order r.inverse_len _ _ _ c.loop-p.invariant c.loop-p-test.true _ _ c.fill_row-q.ensures.result_value
    c.fill_row-q.ensures.out_after

pub returns : goal.returns
returns c =
    let r = c.requires in
    packed_all _ _ _ _ r.n_le_most_order r.inverse_len _ _ _ c.loop-p.invariant c.loop-p-test.false (omega arith)
