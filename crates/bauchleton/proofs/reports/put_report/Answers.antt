-- A report of another length is left; else five parts are stored, one after the other.
use mathlib.Core.Path.{refl}
use Rattle.bauchleton.specs.Report.{eight_bytes}
use Rattle.bauchleton.proofs.Report.{eight_length, five_parts, told-report, stored_report}
use Rattle.bauchleton.proofs.reports.put_report.Goals as goal

pub returns-then-report-ne-REPORT : goal.returns-then-report-ne-REPORT
returns-then-report-ne-REPORT c =
    let a = c.args in
    told-report a.place a.c.rounds a.c.turned a.c.outside a.c.stuck a.report.now c.if-report-ne-REPORT.true

pub returns : goal.returns
returns c =
    let a = c.args in
    let e0 = c.put_number.ensures in
    let e1 = c.put_number-2.ensures in
    let e2 = c.put_number-3.ensures in
    let e3 = c.put_number-4.ensures in
    let e4 = c.put_number-5.ensures in
    stored_report a.place a.c.rounds a.c.turned a.c.outside a.c.stuck a.report.now c.if-report-ne-REPORT.false _
    (rw (e0, e1, e2, e3, e4)
    (five_parts a.report.now (eight_bytes a.place) (eight_bytes a.c.rounds) (eight_bytes a.c.turned) (eight_bytes a.c.outside) (eight_bytes a.c.stuck)
    (eight_length _) (eight_length _) (eight_length _) (eight_length _) _ _ _ _ refl refl refl refl))
