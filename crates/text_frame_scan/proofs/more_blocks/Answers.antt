use Rattle.text_items.proofs.Handing.{handed_on}
use Rattle.text_frame_scan.specs.Judged.{found_scan}
use Rattle.text_frame_scan.proofs.Judging.{tail_there, tail_over, tail_wrong, tail_next}
use Rattle.text_formats.specs.Items.{verdict}
use Rattle.staircase.specs.Design.{most-blocks}
use Rattle.text_formats.specs.Format.{read}
use native.Mathlib.Omega.{arith}
use mathlib.Core.List.{[]}
use Prim.Native.Nat.{ℕ}
use mathlib.Core.Path.{sym, ap, ◌∙◌}
use Rattle.text_frame_scan.proofs.more_blocks.Goals as goal

pub returns-then-s-q : goal.returns-then-s-q
returns-then-s-q c = sym (c.loop-i.invariant ∙ ap verdict (tail_there _ most-blocks _ _ _ c.if-s-q.true))

pub returns-in_err-q : goal.returns-in_err-q
returns-in_err-q c =
    ap found_scan (handed_on c.from_residual.ensures.1)
    ∙ sym (c.loop-i.invariant ∙ ap verdict (tail_wrong _ most-blocks _ _ _ c.if-s-q.false c.loop-i-test.true _ c.bits_line.ensures _ c.in_err-q.was))

pub loop-i-preserved : goal.loop-i-preserved
loop-i-preserved c =
    c.loop-i.invariant ∙ tail_next _ most-blocks _ _ _ c.if-s-q.false c.loop-i-test.true _ c.bits_line.ensures _ c.in_ok-q.was

pub returns-then-s-q-2 : goal.returns-then-s-q-2
returns-then-s-q-2 c =
    ap (λ (n : ℕ). read n []) (omega (arith, c.loop-i.auto.i-end))
    ∙ sym (c.loop-i.invariant ∙ ap verdict (tail_there _ most-blocks _ _ _ c.if-s-q-2.true))

pub returns : goal.returns
returns c = sym (c.loop-i.invariant ∙ ap verdict (tail_over _ most-blocks _ _ _ c.if-s-q-2.false c.loop-i-test.false))
