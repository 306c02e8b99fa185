-- The lengths that are due, one by one.
use native.Mathlib.Omega.{arith}
use Rattle.bauchleton.proofs.FrameSizes.{sizes-made, kit-work-few}
use Rattle.bauchleton.proofs.sizes.sizes_of.Goals as goal

pub overflow_add-loopback : goal.overflow_add-loopback
overflow_add-loopback c =
    let a = c.args in
    let kit = c.kit_due-kit in
    omega (arith, kit-work-few a.d kit.result c.requires.0 kit.ensures, c.kept_work-kept.ensures.1)

pub returns : goal.returns
returns c =
    let a = c.args in
    let few = c.requires.1 in
    sizes-made a.d a.blocks c.r.ensures.0 c.n.ensures.0 c.k.ensures.0 c.group_count.ensures
    c.kit_due-kit.ensures c.make_due-make.ensures c.lists_due-lists.ensures (c.frame_due-frame.ensures few)
    (c.decoder_due-decoder.ensures few) c.kept_work-kept.ensures.0 c.row_bytes.ensures.0
