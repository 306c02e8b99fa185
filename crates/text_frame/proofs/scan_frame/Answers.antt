-- What judging finds, as the answer.
use Rattle.text_items.proofs.Handing.{handed_on}
use Rattle.text_frame.proofs.Answering.{count-told, place_told, frame-told}
use Rattle.text_frame.proofs.scan_frame.Goals as goal

pub returns-in_err-blocks : goal.returns-in_err-blocks
returns-in_err-blocks c =
    let told = place_told _ _ c.in_err-blocks.was _ (handed_on c.from_residual.ensures.1) in
    let t = frame-told _ _ _ _ _ c.judge_frame.result c.area.ensures.0 c.order.ensures.0 c.judge_frame.ensures _ told in
    record { result_value = t.0; count_is = t.1 }

pub returns : goal.returns
returns c =
    let t = frame-told _ _ _ _ _ c.judge_frame.result c.area.ensures.0 c.order.ensures.0 c.judge_frame.ensures _ (count-told _ _ c.in_ok-blocks.was) in
    record { result_value = t.0; count_is = t.1 }
