-- The number is there, then Y, then P, then a line feed.
use Rattle.text_frame_fill.proofs.Filling.{group_there, group-own, parity_there, feed_there, both-filled}
use native.Mathlib.Omega.{arith}
use Rattle.text_frame_fill.proofs.fill_group.Goals as goal

pub unwrap-i-requires : goal.unwrap-i-requires
unwrap-i-requires c =
    let a = c.args in
    group_there a.n a.p a.s.now a.at c.requires.2 _ c.number_is.ensures

pub fill_half-j-requires : goal.fill_half-j-requires
fill_half-j-requires c =
    let a = c.args in
    (omega (arith, c.requires.1), group-own a.n a.p a.s.now a.at c.requires.2 _ c.number_is.ensures _ c.unwrap-i.ensures)

pub fill_half-e-requires : goal.fill_half-e-requires
fill_half-e-requires c =
    let a = c.args in
    (omega (arith, c.requires.1), parity_there a.n a.p a.s.now a.at c.requires.2 _ c.number_is.ensures _ c.unwrap-i.ensures _ c.fill_half-j.ensures.result_value)

pub overflow_add-result : goal.overflow_add-result
overflow_add-result c =
    let a = c.args in
    omega (arith, feed_there a.n a.p a.s.now a.at c.requires.2 _ c.number_is.ensures _ c.unwrap-i.ensures _ c.fill_half-j.ensures.result_value _ c.fill_half-e.ensures.result_value)

pub returns : goal.returns
returns c =
    let a = c.args in
    both-filled a.n a.p a.s.now a.at c.requires.2 _ c.number_is.ensures _ c.unwrap-i.ensures _ c.fill_half-j.ensures.result_value _ c.fill_half-e.ensures.result_value a.out.now _ _ c.requires.1 c.fill_half-j.ensures.out_after c.fill_half-e.ensures.out_after
