-- The names, the rows' lines and the end of the text.
use Rattle.text_items.proofs.Handing.{handed_on}
use Rattle.text.specs.KitText.{row_names}
use Rattle.text_kit_scan.proofs.PartLaws.{part-names, part-lines, part-more, part-whole, tail-split}
use Rattle.text_kit_scan.proofs.rows_and_end.Goals as goal

pub returns-in_err-i : goal.returns-in_err-i
returns-in_err-i c =
    part-names row_names _ _ (tail-split _) _ _ _ c.literal.ensures _ c.in_err-i.was _ (handed_on c.from_residual.ensures.1)

pub returns-in_err-e : goal.returns-in_err-e
returns-in_err-e c =
    part-lines row_names _ _ (tail-split _) _ _ _ c.literal.ensures _ c.in_ok-i.was _ c.rows.ensures _ c.in_err-e.was _
    (handed_on c.from_residual-in_err-e.ensures.1)

pub returns-then-e-s : goal.returns-then-e-s
returns-then-e-s c =
    part-more row_names _ _ (tail-split _) _ _ _ c.literal.ensures _ c.in_ok-i.was _ c.rows.ensures _ c.in_ok-e.was c.if-e-s.true

pub returns : goal.returns
returns c = part-whole row_names _ _ (tail-split _) _ _ _ c.literal.ensures _ c.in_ok-i.was _ c.rows.ensures _ c.in_ok-e.was c.if-e-s.false
