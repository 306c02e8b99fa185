-- The tables of sums have the entries that are due, or none.
use native.Mathlib.Omega.{arith}
use Rattle.design.specs.Sizes.{params_of}
use Rattle.layout.proofs.Layouts.{size_highest, r_highest, tail-most}
use Rattle.words_lines.proofs.count_filled.Goals as goal

pub parts_due-due-requires : goal.parts_due-due-requires
parts_due-due-requires c =
    let g = c.args.frames in
    let A = c.requires.0.tail.allowed in (
      omega (arith, c.size.ensures, size_highest g.shape g.d A),
      omega (arith, c.tail_bits.ensures.0, tail-most g.shape (params_of g.d), r_highest g.shape g.d A),
      c.requires.0.tail.few-blocks,
    )
