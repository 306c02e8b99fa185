-- The parts of the text: `kit-length` of proofs/Parts.antt.
use mathlib.Core.List.{[]}
use Rattle.text_kit_write.proofs.Parts.{kit-length}
use Rattle.text_kit_write.proofs.lengths.kit_length.Goals as goal

pub returns : goal.returns
returns c =
    let a = c.args in
    kit-length a.d.m a.d.t a.d.size a.own.now a.parity.now [] c.m.ensures
    c.t.ensures
    c.size.ensures
    c.order-n.ensures.0
    c.three_length-numbers.ensures.0
    c.pairs_length.ensures.0
    c.rows_length.ensures.0
