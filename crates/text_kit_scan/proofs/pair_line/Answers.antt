-- The place's number, the space and the two entries.
use mathlib.Core.Path.{ap, ◌∙◌}
use Rattle.text_items.proofs.Handing.{handed_on}
use Rattle.text_kit_scan.specs.Answers.{line_walk}
use Rattle.text_kit_scan.proofs.ListLines.{place_wrong, space_wrong, pair_read}
use Rattle.text_kit_scan.proofs.pair_line.Goals as goal

pub returns-in_err-i : goal.returns-in_err-i
returns-in_err-i c = ap line_walk (handed_on c.from_residual.ensures.1) ∙ place_wrong _ _ _ _ c.number_is.ensures _ c.in_err-i.was

pub returns-in_err-j : goal.returns-in_err-j
returns-in_err-j c =
    ap line_walk (handed_on c.from_residual-in_err-j.ensures.1)
    ∙ space_wrong _ _ _ _ c.number_is.ensures _ c.in_ok-i.was _ c.byte_is.ensures _ c.in_err-j.was

pub returns : goal.returns
returns c = pair_read _ _ _ _ c.number_is.ensures _ c.in_ok-i.was _ c.byte_is.ensures _ c.in_ok-j.was _ c.two_numbers.ensures
