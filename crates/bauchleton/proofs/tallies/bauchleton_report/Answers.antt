-- A slice that is no tally is refused; else its report.
use Rattle.answers.specs.Answers.{refusal_verdict}
use Rattle.rules_verdict.specs.Number.{number, place_of}
use Rattle.tally.specs.Answers.{totals_of}
use Rattle.bauchleton.proofs.LentTally.{report_other, report_six}
use Rattle.bauchleton.proofs.tallies.bauchleton_report.Goals as goal

pub returns-then-tally-ne-TOTALS : goal.returns-then-tally-ne-TOTALS
unfolding refusal_verdict number place_of
returns-then-tally-ne-TOTALS c =
    let a = c.args in
    report_other a.tally.now a.answer.now c.if-tally-ne-TOTALS.true (rw c.from.ensures at c.tell.ensures)

pub returns : goal.returns
returns c =
    let a = c.args in
    report_six a.tally.now a.answer.now c.report.result (totals_of c.tally_in.result) c.if-tally-ne-TOTALS.false c.tally_in.ensures
    c.report.ensures c.tell_report.ensures
