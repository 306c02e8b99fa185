-- What the answers say.
--   digit_at, num_at       the answers of `digit_at` and of `number`: the digit and the number at a position
--   step_of               the answer to a walk, without its values
--   step_walk, field_walk  the walk that an answer tells
--   error_verdict         the verdict of a text's error, for the rule of the text's format
-- Assumes nothing.
use Rattle.std.specs.Prelude.{ℕ, zero, suc, ◌+◌, ◌-◌, cond, List, [], ◌∷◌, get_or, drop, Option, Some, None, Result, Ok, Err}
use Rattle.text_formats.specs.Format.{num_len, value, is_digit}
use Rattle.text_formats.specs.Items.{Walk, stuck, past}
use Rattle.staircase.specs.Rules.{Verdict}
use Rattle.staircase.specs.Rules.Verdict.{refused}
use Rattle.answers.specs.Answers.{refusal_verdict}
use Rattle.answers.specs.declared.TextError.{TextError}
use Rattle.answers.specs.declared.TextError.TheVariants.{Refused, Broken as BrokenAt}
use Rattle.text_items.specs.declared.Broken.{Broken}

-- The value of the digit at i, and 10 where there is none.
unfoldable pub digit_at : List ℕ → ℕ → ℕ
digit_at s i = cond (is_digit (get_or s i 256)) (get_or s i 256 - 48) 10

-- The number of n digits at the front of s, which stands at the position `at`; none where n is 0.
abbrev pub num_of : ℕ → List ℕ → ℕ → Option (ℕ × ℕ)
num_of zero s at = None
num_of (suc n) s at = Some (value (suc n) s, at + suc n)

unfoldable pub num_at : List ℕ → ℕ → Option (ℕ × ℕ)
num_at s at = num_of (num_len (drop at s)) (drop at s) at

-- The answer to a walk.
abbrev pub step_of : Walk → Result ℕ Broken
step_of (stuck q) = Err (record { place = q })
step_of (past ws q) = Ok q

-- What an answer says, as a walk: each determines the other.
abbrev pub step_walk : Result ℕ Broken → Walk
step_walk (Ok q) = past [] q
step_walk (Err b) = stuck b.place

abbrev pub field_walk : Result (ℕ × ℕ) Broken → Walk
field_walk (Ok (v, q)) = past (v ∷ []) q
field_walk (Err b) = stuck b.place

-- The verdict of a text's error: that of the refusal, or the place by the rule of the text's format.
abbrev pub error_verdict : ℕ → TextError → Verdict
error_verdict rule (Refused r) = refusal_verdict r
error_verdict rule (BrokenAt p) = refused rule p
