-- What the answer says.
--   share_in   the two numbers as document 02's share
-- Assumes nothing.
use Rattle.staircase.specs.Report as report
use Rattle.tally_share.specs.declared.Share.{Share}

abbrev pub share_in : Share → report.Share
share_in s = record { top = s.top; bottom = s.bottom }
