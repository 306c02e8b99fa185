-- The part of the slice is lent, and comes back with the values of the walk.
use Rattle.text_frame_fill.proofs.Filling.{half_filled}
use Rattle.text_frame_fill.proofs.fill_half.Goals as goal

pub returns : goal.returns
returns c =
    let a = c.args in let t = half_filled a.s.now a.at a.n a.from a.out.now c.requires.0 _ _ c.fill_part.ensures in record { result_value = t.0; out_after = t.1 }
