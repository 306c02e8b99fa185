-- The row masks the planes, and the first wrong byte is the first wrong entry.
use native.Mathlib.Omega.{arith}
use mathlib.Core.Path.{◌≡◌, ◌∙◌}
use lib.ListN.{length}
use Rattle.words_positions.proofs.Parts.{part-is}
use Rattle.kit_inverse.proofs.Found.{found}
use Rattle.kit_inverse.proofs.products.first_in_packed.Goals as goal

pub returns : goal.returns
returns c =
    let a = c.args in
    let h = c.requires in
    let m = c.mask_rows in
    let d : length m.new.acc ≡ a.n = omega arith in
    c.first_wrong.ensures ∙ found a.row.now a.t.now a.n a.e h.4 m.new.acc _ m.ensures.1 (part-is _ _ _ d) d
