use Rattle.text_items.proofs.Handing.{handed_on}
use Rattle.text_frame_scan.specs.Judged.{found_scan}
use Rattle.text_frame_scan.proofs.Judging.{frame-group, frame-none, frame-cut, frame_next}
use Rattle.text_formats.specs.Items.{scan_at, verdict}
use Rattle.text.specs.FrameText.{group_tail}
use Rattle.staircase.specs.Design.{most-blocks}
use native.Mathlib.Omega.{arith}
use mathlib.Core.Path.{◌≡◌, sym, ap, ◌∙◌}
use Prim.Native.Nat.{ℕ}
use Rattle.text_frame_scan.proofs.more_frame.Goals as goal

pub returns-in-Ok : goal.returns-in-Ok
returns-in-Ok c =
    c.group_text.ensures ∙ sym (c.loop-blocks.invariant ∙ frame-group _ _ most-blocks _ _ _ _ c.byte_is.ensures _ c.in-Ok.is)

pub returns-in_err-q : goal.returns-in_err-q
returns-in_err-q c =
    let l = c.loop-blocks in
    ap found_scan (handed_on c.from_residual.ensures.1)
    ∙ sym (l.invariant ∙ ap verdict (frame-cut _ _ most-blocks _ _ _ _ c.byte_is.ensures c.loop-blocks-test.true _ c.in_default.is _ c.bits_line.ensures _ c.in_err-q.was))

pub loop-blocks-preserved : goal.loop-blocks-preserved
loop-blocks-preserved c =
    c.loop-blocks.invariant
    ∙ frame_next _ _ most-blocks _ _ _ _ c.byte_is.ensures c.loop-blocks-test.true _ c.in_default.is _ c.bits_line.ensures _ c.in_ok-q.was

pub returns-in_err-j : goal.returns-in_err-j
returns-in_err-j c =
    ap found_scan (handed_on c.from_residual-in_err-j.ensures.1)
    ∙ sym (c.loop-blocks.invariant ∙ ap verdict (frame-none _ _ most-blocks _ _ _ _ c.byte_is-2.ensures c.loop-blocks-test.false _ c.in_err-j.was))

pub returns : goal.returns
returns c =
    let l = c.loop-blocks in
    let e : most-blocks ≡ l.blocks = omega (arith, l.auto.blocks-end) in
    c.group_text-2.ensures
    ∙ ap (λ (n : ℕ). verdict (scan_at (group_tail c.args.n n) c.args.s.now c.in_ok-j.j)) e
    ∙ sym (l.invariant ∙ frame-group _ _ most-blocks _ _ _ _ c.byte_is-2.ensures _ c.in_ok-j.was)
