-- The tables of sums are those of the parts of the words.
use native.Mathlib.Omega.{arith}
use Rattle.design.specs.Sizes.{params_of}
use Rattle.layout.proofs.Layouts.{size_highest, r_highest, tail-most}
use Rattle.words_lines.proofs.Lines.{blocks_asked, reads-few, line-done}
use Rattle.words_lines.proofs.line_remainders.Goals as goal

pub table_length-b-requires : goal.table_length-b-requires
table_length-b-requires c =
    let f = c.args.line.frames in
    omega (arith, c.size-size.ensures, size_highest f.shape f.d c.requires.0.tail.allowed)

pub table_length-e-requires : goal.table_length-e-requires
table_length-e-requires c =
    let f = c.args.line.frames in
    omega (arith, c.tail_bits-tail.ensures.0, tail-most f.shape (params_of f.d), r_highest f.shape f.d c.requires.0.tail.allowed)

pub line_blocks-blocks-requires : goal.line_blocks-blocks-requires
line_blocks-blocks-requires c =
    blocks_asked c.requires c.size-size.ensures c.tail_bits-tail.ensures.0 c.table_length-b.ensures.0 c.table_length-e.ensures.0 c.part-halves.ensures

pub overflow_add-result : goal.overflow_add-result
overflow_add-result c =
    omega (arith, reads-few c.requires c.line_blocks-blocks.ensures.1 c.add_tail-behind.ensures.2)

pub returns : goal.returns
returns c =
    let blocks = c.line_blocks-blocks in
    let tail = c.add_tail-behind in
    line-done c.requires blocks.ensures.1 tail.ensures.2 blocks.new.sums tail.new.sums blocks.ensures.0
    tail.ensures.0 tail.ensures.1
