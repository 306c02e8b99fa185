-- A verdict's rule and place.
use Rattle.bauchleton.proofs.Report.{judged-reported}
use Rattle.bauchleton.proofs.reports.report_check.Goals as goal

pub returns : goal.returns
returns c = judged-reported c.args.report.now _ c.from-judged.ensures c.put_place.ensures
