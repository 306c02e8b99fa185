-- What judging finds, as the answer.
use Rattle.text_items.proofs.Handing.{handed_on}
use Rattle.text_frame.proofs.Answering.{count-told, place_told, blocks-told}
use Rattle.text_frame.proofs.scan_blocks.Goals as goal

pub returns-in_err-n : goal.returns-in_err-n
returns-in_err-n c =
    let told = place_told _ _ c.in_err-n.was _ (handed_on c.from_residual.ensures.1) in
    let t = blocks-told _ _ _ c.judge_blocks.result c.area.ensures.0 c.judge_blocks.ensures _ told in
    record { result_value = t.0; count_is = t.1 }

pub returns : goal.returns
returns c =
    let t = blocks-told _ _ _ c.judge_blocks.result c.area.ensures.0 c.judge_blocks.ensures _ (count-told _ _ c.in_ok-n.was) in
    record { result_value = t.0; count_is = t.1 }
