-- The header, the lines of the groups, and the end of the text.
use mathlib.Core.Path.{ap, ◌∙◌}
use Rattle.text_items.proofs.Handing.{handed_on}
use Rattle.text_frame_scan.specs.Judged.{found_scan}
use Rattle.text_frame_scan.proofs.Judging.{names_wrong, groups_wrong, groups_there, groups_over}
use Rattle.text_frame_scan.proofs.group_text.Goals as goal

pub returns-in_err-i : goal.returns-in_err-i
returns-in_err-i c = ap found_scan (handed_on c.from_residual.ensures.1) ∙ names_wrong _ _ _ _ _ c.literal.ensures _ c.in_err-i.was

pub returns-in_err-e : goal.returns-in_err-e
returns-in_err-e c =
    ap found_scan (handed_on c.from_residual-in_err-e.ensures.1)
    ∙ groups_wrong _ _ _ _ _ c.literal.ensures _ c.in_ok-i.was _ c.group_count-groups.ensures _ c.group_lines.ensures _ c.in_err-e.was

pub returns-then-e-s : goal.returns-then-e-s
returns-then-e-s c =
    groups_over _ _ _ _ _ c.literal.ensures _ c.in_ok-i.was _ c.group_count-groups.ensures _ c.group_lines.ensures _ c.in_ok-e.was c.if-e-s.true

pub returns : goal.returns
returns c =
    groups_there _ _ _ _ _ c.literal.ensures _ c.in_ok-i.was _ c.group_count-groups.ensures _ c.group_lines.ensures _ c.in_ok-e.was c.if-e-s.false
