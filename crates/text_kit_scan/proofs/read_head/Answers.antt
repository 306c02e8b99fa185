-- The names, the first number and the two after it.
use mathlib.Core.Path.{ap, ◌∙◌}
use Rattle.text_items.proofs.Handing.{handed_on}
use Rattle.text_kit_scan.specs.Answers.{head_walk}
use Rattle.text_kit_scan.proofs.TwoLines.{lines-names, lines-first, lines-others, lines-read}
use Rattle.text_kit_scan.proofs.read_head.Goals as goal

pub returns-in_err-i : goal.returns-in_err-i
returns-in_err-i c = ap head_walk (handed_on c.from_residual.ensures.1) ∙ lines-names _ _ c.literal.ensures _ c.in_err-i.was

pub returns-in_err-m : goal.returns-in_err-m
returns-in_err-m c =
    ap head_walk (handed_on c.from_residual-in_err-m.ensures.1)
    ∙ lines-first _ _ c.literal.ensures _ c.in_ok-i.was _ c.number_then.ensures _ c.in_err-m.was

pub returns-in_err-t : goal.returns-in_err-t
returns-in_err-t c =
    ap head_walk (handed_on c.from_residual-in_err-t.ensures.1)
    ∙ lines-others _ _ c.literal.ensures _ c.in_ok-i.was _ c.number_then.ensures _ _ c.in_ok-m.was _ c.two_numbers.ensures _ c.in_err-t.was

pub returns : goal.returns
returns c =
    lines-read _ _ c.literal.ensures _ c.in_ok-i.was _ c.number_then.ensures _ _ c.in_ok-m.was _ c.two_numbers.ensures _ _ _ c.in_ok-t.was
