-- The header, and then the line.
use mathlib.Core.Path.{◌∙◌}
use Rattle.text_items.proofs.Handing.{handed_on}
use Rattle.text_items.proofs.Lines.{step-of, stops_first, goes_on}
use Rattle.text_formats.specs.Items.{lits, bits_line}
use Rattle.text.specs.FrameText.{block_names}
use Rattle.text_frame_scan.proofs.front.Goals as goal

pub returns-in_err-i : goal.returns-in_err-i
returns-in_err-i c =
    handed_on c.from_residual.ensures.1
    ∙ stops_first (lits block_names) (bits_line _ 1) _ _ _ (step-of _ _ c.literal.ensures) _ c.in_err-i.was

pub returns : goal.returns
returns c = goes_on (lits block_names) (bits_line _ 1) _ _ _ (step-of _ _ c.literal.ensures) _ c.in_ok-i.was _ c.bits_line.ensures
