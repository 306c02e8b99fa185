-- The names, the lists' lines and what follows them.
use Rattle.text_items.proofs.Handing.{handed_on}
use Rattle.text_kit_scan.proofs.RestLaws.{rest-names, rest-lists, rest-tail, rest-whole}
use Rattle.text_kit_scan.proofs.judge_rest.Goals as goal

pub returns-in_err-i : goal.returns-in_err-i
returns-in_err-i c =
    let t = rest-names _ _ _ _ c.literal.ensures _ c.in_err-i.was _ (handed_on c.from_residual.ensures.1) in
    record { result_value = t.0; rest_parts = t.1 }

pub returns-in_err-e : goal.returns-in_err-e
returns-in_err-e c =
    let r = handed_on c.from_residual-in_err-e.ensures.1 in
    let t = rest-lists _ _ _ _ c.literal.ensures _ c.in_ok-i.was _ c.pairs.ensures _ c.in_err-e.was _ r in
    record { result_value = t.0; rest_parts = t.1 }

pub returns-in_err-j : goal.returns-in_err-j
returns-in_err-j c =
    let r = handed_on c.from_residual-in_err-j.ensures.1 in
    let t = rest-tail _ _ _ _ c.literal.ensures _ c.in_ok-i.was _ c.pairs.ensures _ c.in_ok-e.was _ c.rows_and_end.ensures _ c.in_err-j.was _ r in
    record { result_value = t.0; rest_parts = t.1 }

pub returns : goal.returns
returns c =
    let t = rest-whole _ _ _ _ c.literal.ensures _ c.in_ok-i.was _ c.pairs.ensures _ c.in_ok-e.was _ c.rows_and_end.ensures _ c.in_ok-j.was in
    record { result_value = t.0; rest_parts = t.1 }
