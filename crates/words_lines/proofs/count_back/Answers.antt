-- The table is made in a part of a local array.
use native.Mathlib.Omega.{arith}
use Rattle.layout.proofs.Layouts.{bits_highest}
use Rattle.words_lines.proofs.count_back.Goals as goal

pub slice_bounds-back-end : goal.slice_bounds-back-end
slice_bounds-back-end c =
    let g = c.args.frames in
    omega (arith, c.requires.1.long, bits_highest g.shape g.d c.requires.0.tail.allowed)
