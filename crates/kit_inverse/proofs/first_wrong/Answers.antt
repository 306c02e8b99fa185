-- W fits, and the planes of its rows are as the rows of A W ask.
use mathlib.Core.Path.{◌∙◌}
use Rattle.kit_inverse.proofs.WholeProduct.{wrong_found}
use Rattle.kit_inverse.proofs.first_wrong.Goals as goal

pub returns : goal.returns
returns c =
    let a = c.args in
    let h = c.requires in
    let o = c.order-n in
    let t = c.planes_of_rows in
    rw c.size.ensures at c.first_wrong.ensures
    ∙ wrong_found a.d a.own.now a.parity.now a.inverse.now a.work.now h.0 o.result o.ensures.0
    a.columns.now a.part.now h.1 h.2 _ t.ensures.1
