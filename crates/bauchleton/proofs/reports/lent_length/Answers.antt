-- Nothing, or all of it.
use native.Mathlib.Omega.{arith}
use Rattle.bauchleton.proofs.Report.{lent_none, lent_all}
use Rattle.bauchleton.proofs.reports.lent_length.Goals as goal

pub returns-then-report-ne-REPORT : goal.returns-then-report-ne-REPORT
returns-then-report-ne-REPORT c = (lent_none c.args.report c.args.n c.if-report-ne-REPORT.true, omega arith)

pub returns : goal.returns
returns c = (lent_all c.args.report c.args.n c.if-report-ne-REPORT.false, omega arith)
