-- The front, and then the rest.
use mathlib.Core.Path.{ap, ◌∙◌}
use Rattle.text_items.proofs.Handing.{handed_on}
use Rattle.text_frame_scan.specs.Judged.{found_scan}
use Rattle.text_frame_scan.proofs.Judging.{front_wrong, front_on}
use Rattle.staircase.specs.Design.{most-blocks}
use Rattle.text.specs.FrameText.{block_tail, block_format}
use Prim.Native.Nat.{◌-◌}
use Rattle.text_frame_scan.proofs.judge_blocks.Goals as goal

pub returns-in_err-e : goal.returns-in_err-e
unfolding block_format
returns-in_err-e c =
    ap found_scan (handed_on c.from_residual.ensures.1)
    ∙ front_wrong _ (block_tail _ (most-blocks - 1) 1) _ _ c.front.ensures _ c.in_err-e.was

pub returns : goal.returns
unfolding block_format
returns c = front_on _ (block_tail _ (most-blocks - 1) 1) _ _ c.front.ensures _ c.in_ok-e.was _ c.more_blocks.ensures
