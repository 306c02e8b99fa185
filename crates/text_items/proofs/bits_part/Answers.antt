-- The space, and then the bits.
use mathlib.Core.Path.{◌∙◌}
use Rattle.text_items.proofs.Handing.{handed_on}
use Rattle.text_items.proofs.Lines.{part_space, part-bits}
use Rattle.text_items.proofs.bits_part.Goals as goal

pub returns-in_err-i : goal.returns-in_err-i
returns-in_err-i c = handed_on c.from_residual.ensures.1 ∙ part_space c.args.n c.args.s.now c.args.at _ c.byte_is.ensures _ c.in_err-i.was

pub returns : goal.returns
returns c = part-bits c.args.n c.args.s.now c.args.at _ c.byte_is.ensures _ c.in_ok-i.was _ c.bit_run.ensures
