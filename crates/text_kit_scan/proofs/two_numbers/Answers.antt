-- One number after the other.
use mathlib.Core.Path.{ap, ◌∙◌}
use Rattle.text_items.proofs.Handing.{handed_on}
use Rattle.text_kit_scan.specs.Answers.{line_walk}
use Rattle.text_kit_scan.proofs.ListLines.{two_first, two_second, two_read}
use Rattle.text_kit_scan.proofs.two_numbers.Goals as goal

pub returns-in_err-a : goal.returns-in_err-a
returns-in_err-a c = ap line_walk (handed_on c.from_residual.ensures.1) ∙ two_first _ _ _ c.number_then.ensures _ c.in_err-a.was

pub returns-in_err-b : goal.returns-in_err-b
returns-in_err-b c =
    ap line_walk (handed_on c.from_residual-in_err-b.ensures.1)
    ∙ two_second _ _ _ c.number_then.ensures _ _ c.in_ok-a.was _ c.number_then-2.ensures _ c.in_err-b.was

pub returns : goal.returns
returns c = two_read _ _ _ c.number_then.ensures _ _ c.in_ok-a.was _ c.number_then-2.ensures _ _ c.in_ok-b.was
