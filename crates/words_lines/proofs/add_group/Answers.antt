-- The parts of the redundancy and of the table of powers are those of the line.
use native.Mathlib.Omega.{arith}
use mathlib.Core.Path.{refl}
use Rattle.words_lines.proofs.Tail.{red-ends, ends_lent, tail-made}
use Rattle.words_lines.proofs.add_group.Goals as goal

pub slice_bounds-add_ends-end : goal.slice_bounds-add_ends-end
slice_bounds-add_ends-end c =
    omega (arith, red-ends c.requires c.order-n.ensures.0)

pub add_ends-requires : goal.add_ends-requires
add_ends-requires c =
    ends_lent c.requires c.size-x.ensures c.r-r.ensures.0 c.order-n.ensures.0

pub returns : goal.returns
returns c =
    let ends = c.add_ends in
    tail-made c.requires c.size-x.ensures c.r-r.ensures.0 c.order-n.ensures.0 c.args.sums.now ends.new.sums refl ends.ensures.0
    ends.ensures.1
