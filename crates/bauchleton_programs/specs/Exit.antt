-- The exit status of the programs: "status 0 printed, 1 a refusal was printed, 2 wrong words or an input or output that failed".
--   status_of   the exit status
--   failed      the status of wrong words, of an input that cannot be read and of an output that is not taken
--   OrFailed    a status, or `failed` where standard output does not take what is printed
--   Exits       the status of a program whose rules give a verdict: 0 for no refusal, and 1 for nothing else
-- Assumes nothing.
use Rattle.std.specs.Prelude.{◌≡◌, ◌⊎◌, ℕ}
use Rattle.staircase.specs.Rules.{Verdict}
use Rattle.text.specs.ExitStatus.{verdict_status}
use Rattle.bauchleton_programs.specs.declared.Exit.{Exit}
use Rattle.bauchleton_programs.specs.declared.Exit.TheVariants.{Printed, Refused, Failed}

unfoldable pub status_of : Exit → ℕ
status_of Printed = 0
status_of Refused = 1
status_of Failed = 2

abbrev pub failed : ℕ
failed = 2

abbrev pub OrFailed : ℕ → ℕ → Type 0
OrFailed s status = (status ≡ s) ⊎ (status ≡ failed)

abbrev pub Exits : Verdict → ℕ → Type 0
Exits v status = OrFailed (verdict_status v) status
