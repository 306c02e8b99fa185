-- The totals as they are, and their share.
use mathlib.Core.Path.{ap}
use Rattle.staircase.specs.Report as report
use Rattle.staircase.specs.Report.{report_call}
use Rattle.tally.specs.Answers.{totals_of}
use Rattle.tally.proofs.report.Goals as goal

pub returns : goal.returns
unfolding report_call
returns c = ap (λ (s : report.Share). record { totals = totals_of c.args.tally; share = s }) c.lowest_terms-share.ensures
