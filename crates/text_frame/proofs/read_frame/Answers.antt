-- Rule 12 first, then rule 6 for both buffers, then the bits.
use Rattle.text_items.proofs.Handing.{handed_on}
use Rattle.text_frame.proofs.Answering.{place_told}
use mathlib.Core.Path.{sym, ap, ◌∙◌}
use Prim.Native.Nat.{ℕ, ◌*◌}
use Rattle.text_frame.proofs.Calls.{frame_refused, frame-few, frame-pass, groups-room, groups-pass, frame-room, frame-length, frame-filled}
use native.Mathlib.Omega.{arith}
use Rattle.text_frame.proofs.read_frame.Goals as goal

pub returns-in_err-blocks : goal.returns-in_err-blocks
returns-in_err-blocks c =
    let told = place_told _ _ c.in_err-blocks.was _ (handed_on c.from_residual.ensures.1) in
    let t = frame_refused _ _ _ _ _ _ _ c.area-area.ensures.0 c.order-n.ensures.0 c.judge_frame.ensures _ _ _ _ c.in_err-blocks.was told in
    record { result_value = t.0; count_is = t.1.0; info_after = t.1.1.0; red_after = t.1.1.1 }

pub check_frame_lengths-requires : goal.check_frame_lengths-requires
check_frame_lengths-requires c = frame-few _ _ _ _ _ _ _ c.area-area.ensures.0 c.order-n.ensures.0 c.judge_frame.ensures _ c.in_ok-blocks.was

pub group_count-groups-requires : goal.group_count-groups-requires
group_count-groups-requires c = frame-few _ _ _ _ _ _ _ c.area-area.ensures.0 c.order-n.ensures.0 c.judge_frame.ensures _ c.in_ok-blocks.was

pub fill_lines-middle-requires : goal.fill_lines-middle-requires
fill_lines-middle-requires c = let v = c.args in let t = c.judge_frame.ensures in let a = c.area-area.ensures.0 in let o = c.order-n.ensures.0 in let g = c.in_ok-blocks.was in (frame-few _ _ _ _ _ _ _ a o t _ g, (frame-room v.d.m v.d.t v.d.size _ _ _ _ a o t _ g v.d.col v.info.now v.red.now _ c.check_frame_lengths.ensures c.in_ok-check_frame_lengths.was).0, frame-pass _ _ _ _ _ _ _ a o t _ g)

pub overflow_add-middle : goal.overflow_add-middle
overflow_add-middle c = let h = groups-room _ _ _ _ _ _ _ c.area-area.ensures.0 c.order-n.ensures.0 c.judge_frame.ensures _ c.in_ok-blocks.was _ _ c.fill_lines-middle.ensures in omega (arith, h)

pub fill_groups-requires : goal.fill_groups-requires
fill_groups-requires c = let v = c.args in let t = c.judge_frame.ensures in let a = c.area-area.ensures.0 in let o = c.order-n.ensures.0 in let g = c.in_ok-blocks.was in let e = c.group_count-groups.ensures in let h = frame-few _ _ _ _ _ _ _ a o t _ g in (omega (arith, h, e), (frame-room v.d.m v.d.t v.d.size _ _ _ _ a o t _ g v.d.col v.info.now v.red.now _ c.check_frame_lengths.ensures c.in_ok-check_frame_lengths.was).1 ∙ ap (λ (k : ℕ). k * (2 * c.order-n.result)) (sym e), groups-pass _ _ _ _ _ _ _ a o t _ g _ _ c.fill_lines-middle.ensures _ e)

pub returns-in_err-check_frame_lengths : goal.returns-in_err-check_frame_lengths
returns-in_err-check_frame_lengths c =
    let r = handed_on c.from_residual-in_err-check_frame_lengths.ensures.1 in
    let t =
    frame-length _ _ _ _ _ _ _ c.area-area.ensures.0 c.order-n.ensures.0 c.judge_frame.ensures _ c.in_ok-blocks.was _ _ _ _ c.check_frame_lengths.ensures _
    c.in_err-check_frame_lengths.was _ r
    in
    record { result_value = t.0; count_is = t.1.0; info_after = t.1.1.0; red_after = t.1.1.1 }

pub returns : goal.returns
returns c = let t = frame-filled _ _ _ _ _ _ _ c.area-area.ensures.0 c.order-n.ensures.0 c.judge_frame.ensures _ c.in_ok-blocks.was _ _ _ _ c.check_frame_lengths.ensures _ _ _ _ _ c.in_ok-check_frame_lengths.was c.fill_lines-middle.ensures c.group_count-groups.ensures c.fill_groups.ensures in record { result_value = t.0; count_is = t.1.0; info_after = t.1.1.0; red_after = t.1.1.1 }
