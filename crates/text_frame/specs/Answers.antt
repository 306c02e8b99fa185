-- What the answers of the readers say: the number of blocks; or a refusal by rule 6, or the place of rule 12.
--   blocks_verdict     the verdict
--   CountIs           a text that is read has the number of blocks that the answer tells
-- Assumes nothing.
use Rattle.std.specs.Prelude.{◌≡◌, ℕ, Result, Ok, Err}
use Rattle.staircase.specs.Rules.{Verdict}
use Rattle.staircase.specs.Rules.Verdict.{accepted}
use Rattle.answers.specs.declared.TextError.{TextError}
use Rattle.text_items.specs.Answers.{error_verdict}

unfoldable pub blocks_verdict : Result ℕ TextError → Verdict
blocks_verdict (Ok n) = accepted
blocks_verdict (Err e) = error_verdict 12 e

-- a text that is read has the number of blocks that the answer tells
unfoldable pub CountIs : Result ℕ TextError → ℕ → Type 0
CountIs (Ok n) L = n ≡ L
CountIs (Err e) L = Unit
