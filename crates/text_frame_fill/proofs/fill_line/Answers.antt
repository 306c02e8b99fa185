-- The number is there, then the bits, then a line feed.
use Rattle.text_frame_fill.proofs.Filling.{line_there, line-part, line-filled}
use native.Mathlib.Omega.{arith}
use lib.ListN.{length}
use Rattle.text_frame_fill.proofs.fill_line.Goals as goal

pub unwrap-i-requires : goal.unwrap-i-requires
unwrap-i-requires c =
    let a = c.args in
    line_there (length a.out.now) a.p a.s.now a.at c.requires.1 _ c.number_is.ensures

pub fill_part-e-requires : goal.fill_part-e-requires
fill_part-e-requires c =
    let a = c.args in
    line-part (length a.out.now) a.p a.s.now a.at c.requires.1 _ c.number_is.ensures _ c.unwrap-i.ensures

pub overflow_add-result : goal.overflow_add-result
overflow_add-result c =
    let a = c.args in
    omega (arith, (line-filled (length a.out.now) a.p a.s.now a.at c.requires.1 _ c.number_is.ensures _ c.unwrap-i.ensures _ _ c.fill_part-e.ensures).0)

pub returns : goal.returns
returns c =
    let a = c.args in
    (line-filled (length a.out.now) a.p a.s.now a.at c.requires.1 _ c.number_is.ensures _ c.unwrap-i.ensures _ _ c.fill_part-e.ensures).1
