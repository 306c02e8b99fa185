use mathlib.Core.Path.{◌∙◌}
use native.Mathlib.Omega.{arith}
use Rattle.staircase.specs.Spread.{list_bytes}
use Rattle.staircase.proofs.Fill.{stretches_none, stretches_all}
use Rattle.design.specs.Sizes.{params_of, order_of}
use Rattle.kit_spread.specs.Mixing.{table_to}
use Rattle.kit_spread.proofs.Turning.{two_bytes, entry_stored}
use Rattle.kit_spread.proofs.mixing.fill_mixed.Goals as goal

pub loop-p-init : goal.loop-p-init
loop-p-init c = let a = c.args in stretches_none (two_bytes (table_to (params_of a.d) a.by a.rows.now)) a.list.now 2

pub loop-p-preserved : goal.loop-p-preserved
loop-p-preserved c =
    let a = c.args in
    let l = c.loop-p in
    c.store_entry.ensures
    ∙ entry_stored (table_to (params_of a.d) a.by a.rows.now) a.list.now l.p l.list _ l.invariant c.mixed_to-e.ensures (omega (arith, c.requires.3, c.order-n.ensures.0))

pub returns : goal.returns
unfolding list_bytes
returns c =
    let a = c.args in
    let l = c.loop-p in
    l.invariant ∙ stretches_all (two_bytes (table_to (params_of a.d) a.by a.rows.now)) a.list.now 2 l.p (order_of a.d) (omega (arith, c.order-n.ensures.0)) (omega (arith, c.requires.3))
