use mathlib.Core.Path.{sym, ap, ◌∙◌}
use Rattle.text_formats.proofs.Lines.{lines_end}
use Rattle.text_items.proofs.Handing.{handed_on}
use Rattle.text_items.specs.Answers.{step_of}
use Rattle.text.specs.KitText.{pair_line}
use Rattle.text_kit_scan.proofs.ListLines.{pairs_wrong, pairs_step}
use Rattle.text_kit_scan.proofs.pairs.Goals as goal

pub returns-in_err-q : goal.returns-in_err-q
returns-in_err-q c =
    handed_on c.from_residual.ensures.1
    ∙ pairs_wrong _ _ _ _ c.loop-place-test.true _ c.pair_line.ensures _ c.in_err-q.was
    ∙ sym c.loop-place.invariant

pub loop-place-preserved : goal.loop-place-preserved
loop-place-preserved c = c.loop-place.invariant ∙ pairs_step _ _ _ _ c.loop-place-test.true _ c.pair_line.ensures _ _ _ c.in_ok-q.was

pub returns : goal.returns
returns c = sym (c.loop-place.invariant ∙ ap step_of (lines_end pair_line _ _ _ _ _ c.loop-place-test.false))
