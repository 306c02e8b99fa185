-- The two lines and the design, and then the rest.
use Rattle.text_items.proofs.Handing.{handed_on}
use Rattle.text_kit.proofs.ScanLaws.{opens, small-order, scan_error, scan-not, scan-whole}
use Rattle.text_kit.proofs.scan_kit.Goals as goal

pub returns-in_err-design : goal.returns-in_err-design
returns-in_err-design c =
    let f = c.read_front.ensures in
    let t = scan_error _ _ (f.result_value, f.front_is) _ c.in_err-design.was _ (handed_on c.from_residual.ensures.1) in
    record { result_value = t.0; kit_design = t.1 }

pub judge_rest-requires : goal.judge_rest-requires
judge_rest-requires c =
    let f = c.read_front.ensures in
    small-order _ _ _ (opens _ _ (f.result_value, f.front_is) _ _ c.in_ok-design.was) _ c.order.ensures.0

pub returns-in_err-judge_rest : goal.returns-in_err-judge_rest
returns-in_err-judge_rest c =
    let f = c.read_front.ensures in
    let g = c.judge_rest.ensures in
    let r = handed_on c.from_residual-in_err-judge_rest.ensures.1 in
    let t = scan-not _ _ (f.result_value, f.front_is) _ _ c.in_ok-design.was _ c.order.ensures _ (g.result_value, g.rest_parts) _ c.in_err-judge_rest.was _ r in
    record { result_value = t.0; kit_design = t.1 }

pub returns : goal.returns
returns c =
    let f = c.read_front.ensures in
    let g = c.judge_rest.ensures in
    let t = scan-whole _ _ (f.result_value, f.front_is) _ _ c.in_ok-design.was _ c.order.ensures _ (g.result_value, g.rest_parts) _ c.in_ok-judge_rest.was in
    record { result_value = t.0; kit_design = t.1 }
