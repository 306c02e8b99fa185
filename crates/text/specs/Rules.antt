-- What a reading says by the table's rules 11 and 12.
--   walk_rule, scan_rule     refused by a rule at the place where a walk or a scan goes wrong
--   passed                 the position after a walk
--   mark, values_of         of a scan: the mark of the text's end, and the values
--   kept                   what a lent slice holds after a call: the new bytes, or the old ones where the call is refused
-- Assumes nothing.
use Rattle.std.specs.Prelude.{List, [], ℕ}
use Rattle.staircase.specs.Rules.{Verdict}
use Rattle.staircase.specs.Rules.Verdict.{accepted, refused}
use Rattle.text_formats.specs.Format as format
use Rattle.text_formats.specs.Format.{Scan}
use Rattle.text_formats.specs.Items.{Walk, stuck, past}

unfoldable pub walk_rule : ℕ → Walk → Verdict
walk_rule rule (stuck q) = refused rule q
walk_rule rule (past ws q) = accepted

unfoldable pub scan_rule : ℕ → Scan → Verdict
scan_rule rule (format.refused q) = refused rule q
scan_rule rule (format.read l vs) = accepted

unfoldable pub passed : Walk → ℕ
passed (stuck q) = q
passed (past ws q) = q

unfoldable pub mark : Scan → ℕ
mark (format.refused q) = 0
mark (format.read l vs) = l

unfoldable pub values_of : Scan → List ℕ
values_of (format.refused q) = []
values_of (format.read l vs) = vs

-- "lent buffers stay untouched"
unfoldable pub kept : Verdict → List ℕ → List ℕ → List ℕ
kept accepted new old = new
kept (refused n p) new old = old
