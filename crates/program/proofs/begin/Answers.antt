-- Each answer by the rule that decides it.
use Rattle.program.proofs.Starting.{long-kit_stops, long-text_stops, kit_starts, kit_stops}
use Rattle.program.proofs.begin.Goals as goal

pub returns-then-kit-gt-MOST_INPUT : goal.returns-then-kit-gt-MOST_INPUT
returns-then-kit-gt-MOST_INPUT c = long-kit_stops _ _ _ c.if-kit-gt-MOST_INPUT.true

pub returns-then-text-gt-MOST_INPUT : goal.returns-then-text-gt-MOST_INPUT
returns-then-text-gt-MOST_INPUT c = long-text_stops _ _ _ c.if-kit-gt-MOST_INPUT.false c.if-text-gt-MOST_INPUT.true

pub returns-in-Ok : goal.returns-in-Ok
returns-in-Ok c =
    let kit = c.if-kit-gt-MOST_INPUT.false in
    let text = c.if-text-gt-MOST_INPUT.false in
    c.begin_text.ensures _ (kit_starts _ _ kit text _ c.scan_kit.ensures.result_value _ c.in-Ok.is c.scan_kit.ensures.kit_design)

pub returns-in-Err : goal.returns-in-Err
returns-in-Err c =
    let kit = c.if-kit-gt-MOST_INPUT.false in
    let text = c.if-text-gt-MOST_INPUT.false in
    kit_stops _ _ kit text _ c.scan_kit.ensures.result_value _ _ _ c.in-Err.is c.judge_error.ensures
