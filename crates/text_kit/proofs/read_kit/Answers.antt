-- The two lines and the design, rule 6, the rest, and the filling.
use Rattle.text_items.proofs.Handing.{handed_on}
use Rattle.text_kit.proofs.ReadLaws.{read_error, read_lengths, read_small, read-not, lists_ready, inverse_ready, read_whole}
use Rattle.text_kit.proofs.read_kit.Goals as goal

pub returns-in_err-d : goal.returns-in_err-d
returns-in_err-d c =
    let f = c.read_front.ensures in
    let t = read_error _ _ _ _ _ (f.result_value, f.front_is) _ c.in_err-d.was _ (handed_on c.from_residual.ensures.1) in
    record { result_value = t.0; kit_design = t.1.0; own_after = t.1.1.0; parity_after = t.1.1.1.0; inverse_after = t.1.1.1.1 }

pub returns-in_err-check_kit_lengths : goal.returns-in_err-check_kit_lengths
returns-in_err-check_kit_lengths c =
    let f = c.read_front.ensures in
    let r = handed_on c.from_residual-in_err-check_kit_lengths.ensures.1 in
    let t =
    read_lengths _ _ _ _ _ (f.result_value, f.front_is) _ _ c.in_ok-d.was _ c.check_kit_lengths.ensures _ c.in_err-check_kit_lengths.was _ r
    in
    record { result_value = t.0; kit_design = t.1.0; own_after = t.1.1.0; parity_after = t.1.1.1.0; inverse_after = t.1.1.1.1 }

pub judge_rest-requires : goal.judge_rest-requires
judge_rest-requires c =
    let f = c.read_front.ensures in
    read_small _ _ _ _ _ (f.result_value, f.front_is) _ _ c.in_ok-d.was _ c.check_kit_lengths.ensures c.in_ok-check_kit_lengths.was _ c.order-n.ensures

pub returns-in_err-i : goal.returns-in_err-i
returns-in_err-i c =
    let f = c.read_front.ensures in
    let g = c.judge_rest.ensures in
    let r = handed_on c.from_residual-in_err-i.ensures.1 in
    let t =
    read-not _ _ _ _ _ (f.result_value, f.front_is) _ _ c.in_ok-d.was _ c.check_kit_lengths.ensures c.in_ok-check_kit_lengths.was _ c.order-n.ensures _
    (g.result_value, g.rest_parts) _ c.in_err-i.was _ r
    in
    record { result_value = t.0; kit_design = t.1.0; own_after = t.1.1.0; parity_after = t.1.1.1.0; inverse_after = t.1.1.1.1 }

pub fill_lists-requires : goal.fill_lists-requires
fill_lists-requires c =
    let f = c.read_front.ensures in
    let g = c.judge_rest.ensures in
    let t =
    lists_ready _ _ _ _ _ (f.result_value, f.front_is) _ _ c.in_ok-d.was _ c.check_kit_lengths.ensures c.in_ok-check_kit_lengths.was _ c.order-n.ensures _
    (g.result_value, g.rest_parts) _ _ c.in_ok-i.was
    in
    record { n_le_most_order = t.0; passes = t.1.0; own_len = t.1.1.0; parity_len = t.1.1.1 }

pub fill_inverse-requires : goal.fill_inverse-requires
fill_inverse-requires c =
    let f = c.read_front.ensures in
    let g = c.judge_rest.ensures in
    let t =
    inverse_ready _ _ _ _ _ (f.result_value, f.front_is) _ _ c.in_ok-d.was _ c.check_kit_lengths.ensures c.in_ok-check_kit_lengths.was _ c.order-n.ensures _
    (g.result_value, g.rest_parts) _ _ c.in_ok-i.was
    in
    record { n_le_most_order = t.0; passes = t.1.0; inverse_len = t.1.1 }

pub returns : goal.returns
returns c =
    let f = c.read_front.ensures in
    let g = c.judge_rest.ensures in
    let t =
    read_whole _ _ _ _ _ (f.result_value, f.front_is) _ _ c.in_ok-d.was _ c.check_kit_lengths.ensures c.in_ok-check_kit_lengths.was _ c.order-n.ensures _
    (g.result_value, g.rest_parts) _ _ c.in_ok-i.was _ _ _ c.fill_lists.ensures.own_after c.fill_lists.ensures.parity_after c.fill_inverse.ensures
    in
    record { result_value = t.0; kit_design = t.1.0; own_after = t.1.1.0; parity_after = t.1.1.1.0; inverse_after = t.1.1.1.1 }
