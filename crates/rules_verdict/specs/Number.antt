-- What a host in C is told of an answer.
--   number     0 for accepted, else the number of the rule that refuses
--   place_of    0 for accepted, else the refusal's place
--   judged_of   both, as the code has them
--   told       a lent slice after numbers were stored into it, which is only done where there are as many as it has entries
-- Assumes nothing.
use Rattle.std.specs.Prelude.{cond, List, ℕ, eqb, length}
use Rattle.staircase.specs.Rules.{Verdict}
use Rattle.staircase.specs.Rules.Verdict.{accepted, refused}
use Rattle.rules_verdict.specs.declared.Judged.{Judged}

-- "A refusal returns a number and a place"
unfoldable pub number : Verdict → ℕ
number accepted = 0
number (refused n p) = n

unfoldable pub place_of : Verdict → ℕ
place_of accepted = 0
place_of (refused n p) = p

abbrev pub judged_of : Verdict → Judged
judged_of v = record { rule = number v; place = place_of v }

unfoldable pub told : List ℕ → List ℕ → List ℕ
told new old = cond (eqb (length old) (length new)) new old
