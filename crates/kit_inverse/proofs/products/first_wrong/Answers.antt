-- The places of the parity list's inverse are those that the rows are sent from.
use native.Mathlib.Omega.{arith}
use mathlib.Core.Path.{◌∙◌}
use Prim.Native.Nat.{◌/◌, ◌%◌}
use lib.ListN.{length}
use Rattle.staircase.specs.Rules.{entries}
use Rattle.kit_system.specs.Rows.{row_entry}
use Rattle.kit_system.proofs.Places.{sent-below}
use Rattle.words_positions.proofs.Parts.{part-is}
use Rattle.kit_inverse.specs.Products.{wrong_in, product_wrong}
use Rattle.kit_inverse.proofs.Found.{sent_found}
use Rattle.kit_inverse.proofs.products.first_wrong.Goals as goal

pub first_in_rows-requires : goal.first_in_rows-requires
first_in_rows-requires c =
    let a = c.args in
    let h = c.requires in
    let f = c.fill_preimages in (
      h.0,
      omega arith,
      sent-below a.n (entries a.n a.parity.now) h.1.permutes f.new.out _ f.ensures.1 (part-is _ _ _ f.ensures.0),
    )

pub returns : goal.returns
unfolding product_wrong
returns c =
    let a = c.args in
    let h = c.requires in
    let f = c.fill_preimages in
    c.first_in_rows.ensures
    ∙ sent_found a.n (entries a.n a.parity.now) h.1.permutes f.new.out _ f.ensures.1 (part-is _ _ _ f.ensures.0)
    a.size (length a.part.now) h.1.order h.1.positive
    (λ p i. wrong_in (row_entry a.columns.now a.part.now (entries a.n a.own.now) a.size p (i / a.n)) a.t.now a.n (i / a.n) (i % a.n))
