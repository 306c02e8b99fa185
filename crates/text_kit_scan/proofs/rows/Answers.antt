use mathlib.Core.Path.{sym, ap, ◌∙◌}
use Rattle.text_formats.specs.Items.{bits_line}
use Rattle.text_formats.proofs.Lines.{lines_end}
use Rattle.text_items.proofs.Handing.{handed_on}
use Rattle.text_items.specs.Answers.{step_of}
use Rattle.text_items.proofs.Lines.{lines_wrong, lines_step}
use Rattle.text_kit_scan.proofs.rows.Goals as goal

pub returns-in_err-q : goal.returns-in_err-q
returns-in_err-q c =
    handed_on c.from_residual.ensures.1
    ∙ lines_wrong (bits_line _) _ _ _ _ _ c.loop-row-test.true _ c.bits_line.ensures _ c.in_err-q.was
    ∙ sym c.loop-row.invariant

pub loop-row-preserved : goal.loop-row-preserved
loop-row-preserved c =
    c.loop-row.invariant ∙ lines_step (bits_line _) _ _ _ _ _ c.loop-row-test.true _ c.bits_line.ensures _ c.in_ok-q.was

pub returns : goal.returns
returns c = sym (c.loop-row.invariant ∙ ap step_of (lines_end (bits_line _) _ _ _ _ _ c.loop-row-test.false))
