-- The two lines, and the design of their numbers.
use Rattle.text_items.proofs.Handing.{handed_on}
use Rattle.text_kit_scan.proofs.TwoLines.{front-none, front_ruled, front_starts}
use Rattle.text_kit_scan.proofs.read_front.Goals as goal

pub returns-in_err-m : goal.returns-in_err-m
returns-in_err-m c =
    let t = front-none _ _ c.read_head.ensures _ c.in_err-m.was _ (handed_on c.from_residual.ensures.1) in
    record { result_value = t.0; front_is = t.1 }

pub returns-in_err-d : goal.returns-in_err-d
returns-in_err-d c =
    let t = front_ruled _ _ c.read_head.ensures _ _ _ _ c.in_ok-m.was _ c.new.ensures _ c.in_err-d.was _ (handed_on c.from_residual-in_err-d.ensures.1) in
    record { result_value = t.0; front_is = t.1 }

pub returns : goal.returns
returns c =
    let t = front_starts _ _ c.read_head.ensures _ _ _ _ c.in_ok-m.was _ c.new.ensures _ c.in_ok-d.was in record { result_value = t.0; front_is = t.1 }
