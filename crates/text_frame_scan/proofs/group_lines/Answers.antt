use Rattle.text_formats.proofs.Lines.{lines_end}
use Rattle.text_items.proofs.Handing.{handed_on}
use Rattle.text_items.proofs.Lines.{lines_wrong, lines_step}
use Rattle.text.specs.FrameText.{group_line}
use Rattle.text_items.specs.Answers.{step_of}
use mathlib.Core.Path.{sym, ap, ◌∙◌}
use Prim.Native.Nat.{◌+◌}
use Rattle.text_frame_scan.proofs.group_lines.Goals as goal

pub returns-in_err-q : goal.returns-in_err-q
returns-in_err-q c =
    let a = c.args in
    let l = c.loop-i in
    handed_on c.from_residual.ensures.1
    ∙ lines_wrong (group_line a.n) (l.i + 1) a.count l.i a.s.now l.q c.loop-i-test.true _ c.group_line.ensures _ c.in_err-q.was
    ∙ sym l.invariant

pub loop-i-preserved : goal.loop-i-preserved
loop-i-preserved c =
    let a = c.args in
    let l = c.loop-i in
    l.invariant ∙ lines_step (group_line a.n) (l.i + 1) a.count l.i a.s.now l.q c.loop-i-test.true _ c.group_line.ensures _ c.in_ok-q.was

pub returns : goal.returns
returns c =
    let a = c.args in
    let l = c.loop-i in
    sym (l.invariant ∙ ap step_of (lines_end (group_line a.n) (l.i + 1) a.count l.i a.s.now l.q c.loop-i-test.false))
