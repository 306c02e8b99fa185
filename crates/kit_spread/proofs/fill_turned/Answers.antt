use mathlib.Core.Path.{◌∙◌}
use native.Mathlib.Omega.{arith}
use Rattle.staircase.specs.Spread.{turned_to, list_bytes}
use Rattle.staircase.proofs.Fill.{stretches_none, stretches_all}
use Rattle.design.specs.Sizes.{params_of, order_of}
use Rattle.kit_spread.proofs.Turning.{two_bytes, entry_stored}
use Rattle.kit_spread.proofs.fill_turned.Goals as goal

pub loop-p-init : goal.loop-p-init
loop-p-init c = let a = c.args in stretches_none (two_bytes (turned_to (params_of a.d) a.by)) a.list.now 2

pub loop-p-preserved : goal.loop-p-preserved
loop-p-preserved c =
    let a = c.args in
    let l = c.loop-p in
    c.store_entry.ensures
    ∙ entry_stored (turned_to (params_of a.d) a.by) a.list.now l.p l.list _ l.invariant c.turned_to-e.ensures.0 (omega (arith, c.requires.2, c.order-n.ensures.0))

pub returns : goal.returns
unfolding list_bytes
returns c =
    let a = c.args in
    let l = c.loop-p in
    l.invariant ∙ stretches_all (two_bytes (turned_to (params_of a.d) a.by)) a.list.now 2 l.p (order_of a.d) (omega (arith, c.order-n.ensures.0)) (omega (arith, c.requires.2))
