-- The names, the lists' lines and the end of the text.
use Rattle.text_items.proofs.Handing.{handed_on}
use Rattle.text.specs.KitText.{list_names}
use Rattle.text_kit_scan.proofs.PartLaws.{part-names, part-lines, part-more, part-whole, lists-split}
use Rattle.text_kit_scan.proofs.judge_lists.Goals as goal

pub returns-in_err-i : goal.returns-in_err-i
returns-in_err-i c =
    part-names list_names _ _ (lists-split _) _ _ _ c.literal.ensures _ c.in_err-i.was _ (handed_on c.from_residual.ensures.1)

pub returns-in_err-end : goal.returns-in_err-end
returns-in_err-end c =
    part-lines list_names _ _ (lists-split _) _ _ _ c.literal.ensures _ c.in_ok-i.was _ c.pairs.ensures _ c.in_err-end.was _
    (handed_on c.from_residual-in_err-end.ensures.1)

pub returns-then-end-s : goal.returns-then-end-s
returns-then-end-s c =
    part-more list_names _ _ (lists-split _) _ _ _ c.literal.ensures _ c.in_ok-i.was _ c.pairs.ensures _ c.in_ok-end.was c.if-end-s.true

pub returns : goal.returns
returns c =
    part-whole list_names _ _ (lists-split _) _ _ _ c.literal.ensures _ c.in_ok-i.was _ c.pairs.ensures _ c.in_ok-end.was c.if-end-s.false
