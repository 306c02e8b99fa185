-- The number, Y, P and the line feed, one after the other.
use mathlib.Core.Path.{◌∙◌}
use Rattle.text_items.proofs.Handing.{handed_on}
use Rattle.text_frame_scan.proofs.Judging.{group-number, group-self, group-parity, group-end}
use Rattle.text_frame_scan.proofs.group_line.Goals as goal

pub returns-in_err-i : goal.returns-in_err-i
returns-in_err-i c = handed_on c.from_residual.ensures.1 ∙ group-number _ _ _ _ _ c.number_is.ensures _ c.in_err-i.was

pub returns-in_err-j : goal.returns-in_err-j
returns-in_err-j c =
    handed_on c.from_residual-in_err-j.ensures.1
    ∙ group-self _ _ _ _ _ c.number_is.ensures _ c.in_ok-i.was _ c.bits_part.ensures _ c.in_err-j.was

pub returns-in_err-e : goal.returns-in_err-e
returns-in_err-e c =
    handed_on c.from_residual-in_err-e.ensures.1
    ∙ group-parity _ _ _ _ _ c.number_is.ensures _ c.in_ok-i.was _ c.bits_part.ensures _ c.in_ok-j.was _ c.bits_part-2.ensures _ c.in_err-e.was

pub returns : goal.returns
returns c =
    group-end _ _ _ _ _ c.number_is.ensures _ c.in_ok-i.was _ c.bits_part.ensures _ c.in_ok-j.was _ c.bits_part-2.ensures _ c.in_ok-e.was _
    c.byte_is.ensures
