-- Each answer by what the scan says.
use Rattle.program.proofs.Starting.{text_goes, text_stops}
use Rattle.program.proofs.begin_text.Goals as goal

pub returns-in-Ok : goal.returns-in-Ok
returns-in-Ok c = λ kit S. text_goes _ _ kit _ S _ c.scan_text.ensures.result_value _ c.in-Ok.is c.scan_text.ensures.count_is

pub returns-in-Err : goal.returns-in-Err
returns-in-Err c = λ kit S. text_stops _ _ kit _ S _ c.scan_text.ensures.result_value _ _ c.in-Err.is c.judge_error.ensures
