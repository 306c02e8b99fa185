-- The bytes of a number of eight.
use mathlib.Core.Path.{◌∙◌}
use Rattle.bauchleton.proofs.Report.{bytes_eight}
use Rattle.bauchleton.proofs.reports.put_number.Goals as goal

pub returns : goal.returns
returns c = c.copy_from_slice.ensures.after ∙ c.to_le_bytes.ensures ∙ bytes_eight c.args.n
