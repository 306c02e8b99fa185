-- The number, the bits and the line feed, one after the other.
use mathlib.Core.Path.{◌∙◌}
use Rattle.text_items.proofs.Handing.{handed_on}
use Rattle.text_items.proofs.Lines.{line-number, line-bits, line-end}
use Rattle.text_items.proofs.bits_line.Goals as goal

pub returns-in_err-i : goal.returns-in_err-i
returns-in_err-i c = handed_on c.from_residual.ensures.1 ∙ line-number _ _ _ _ _ c.number_is.ensures _ c.in_err-i.was

pub returns-in_err-e : goal.returns-in_err-e
returns-in_err-e c =
    handed_on c.from_residual-in_err-e.ensures.1
    ∙ line-bits _ _ _ _ _ c.number_is.ensures _ c.in_ok-i.was _ c.bits_part.ensures _ c.in_err-e.was

pub returns : goal.returns
returns c = line-end _ _ _ _ _ c.number_is.ensures _ c.in_ok-i.was _ c.bits_part.ensures _ c.in_ok-e.was _ c.byte_is.ensures
