-- What the answers say.
--   totals_of             the totals of a tally
--   report_of             a report
--   brought_up, SumsFit   the totals after a decode's answer, and that their sums fit
-- Assumes nothing.
use Rattle.answers.specs.declared.Counts.{Counts}
use Rattle.answers.specs.declared.Refusal.{Refusal}
use Rattle.std.specs.Prelude.{ℕ, Err, Ok, Result}
use Rattle.staircase.specs.Tally as totals
use Rattle.staircase.specs.Report as report
use Rattle.answers.specs.Answers.{counts_told}
use Rattle.tally.specs.declared.Tally.{Tally}
use Rattle.tally.specs.declared.TallyReport.{TallyReport}

abbrev pub totals_of : Tally → totals.Tally
totals_of y =
    record { frames = y.frames; bits = y.bits; turned = y.turned; rounds = y.rounds; outside = y.outside; stuck = y.stuck }

abbrev pub report_of : TallyReport → report.Report
report_of r = record { totals = totals_of r.totals; share = record { top = r.top; bottom = r.bottom } }

-- "a refused decode changes no total"
unfoldable pub brought_up : totals.Tally → ℕ → Result Counts Refusal → totals.Tally
brought_up y sent (Ok c) = totals.plus y (totals.counted sent (counts_told c))
brought_up y sent (Err r) = y

-- no total is above 2^62, and the decode counts little
unfoldable pub SumsFit : totals.Tally → ℕ → Result Counts Refusal → Type 0
SumsFit y sent (Ok c) = totals.Within y × totals.Few (counts_told c) sent
SumsFit y sent (Err r) = Unit
