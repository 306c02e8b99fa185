-- The digits of each number, two spaces and the line feed.
use native.Mathlib.Omega.{arith}
use Rattle.text.proofs.KitSpelled.{three-length}
use Rattle.text_kit_write.proofs.Parts.{three_short}
use Rattle.text_kit_write.proofs.lengths.three_length.Goals as goal

pub overflow_add-result : goal.overflow_add-result
overflow_add-result c = let n = c.args in omega (arith, three_short n.a n.b 0, c.digits.ensures, c.digits-2.ensures)

pub overflow_add-result-2 : goal.overflow_add-result-2
overflow_add-result-2 c =
    let n = c.args in
    omega (arith, three_short n.a n.b n.c, c.digits.ensures, c.digits-2.ensures, c.digits-3.ensures)

pub overflow_add-result-3 : goal.overflow_add-result-3
overflow_add-result-3 c =
    let n = c.args in
    omega (arith, three_short n.a n.b n.c, c.digits.ensures, c.digits-2.ensures, c.digits-3.ensures)

pub returns : goal.returns
returns c =
    let n = c.args in
    let long = three-length n.a n.b n.c in (
      omega (arith, long, c.digits.ensures, c.digits-2.ensures, c.digits-3.ensures),
      omega (arith, three_short n.a n.b n.c, c.digits.ensures, c.digits-2.ensures, c.digits-3.ensures),
    )
