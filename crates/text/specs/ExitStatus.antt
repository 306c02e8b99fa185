-- The exit status of a program whose output was printed, "0 printed, 1 a refusal was printed", by the rules that it judges its inputs by, and by what it prints:
-- "an output begins with the letter of a refusal exactly where the call refuses".
--   verdict_status    0 for accepted inputs, 1 for a refusal
--   refusal_letter    the first letter of "`refused place`"
--   output_status     1 for an output that begins with it, else 0
-- That the two are the same for the three programs is proved in proofs/ExitStatus.antt.
-- Assumes nothing.
use Rattle.std.specs.Prelude.{cond, List, ℕ, eqb, get_or}
use Rattle.staircase.specs.Rules.{Verdict}
use Rattle.staircase.specs.Rules.Verdict.{accepted, refused}

unfoldable pub verdict_status : Verdict → ℕ
verdict_status accepted = 0
verdict_status (refused n p) = 1

abbrev pub refusal_letter : ℕ
refusal_letter = 114

unfoldable pub output_status : List ℕ → ℕ
output_status out = cond (eqb (get_or out 0 0) refusal_letter) 1 0
