-- The rules of the writer of kit text after the design's, and what the answer of `text_length` says.
--   text_rules      rules 6 to 8, for a text buffer of so many bytes
--   measured_of     the verdict and the length that an answer stands for
-- Assumes nothing.
use Rattle.answers.specs.declared.Refusal.{Refusal}
use Rattle.std.specs.Prelude.{List, [], ℕ, length, Err, Ok, Result}
use Rattle.staircase.specs.Design.{Params, params}
use Rattle.staircase.specs.Rules.{Verdict, ◌then◌, length_rule, kit_lengths, interleavers}
use Rattle.staircase.specs.Rules.Verdict.{accepted}
use Rattle.answers.specs.Answers.{refusal_verdict}
use Rattle.rules.specs.Bytes.{byte_rules}
use Rattle.text.specs.KitText.{kit_bytes}
use Rattle.text.specs.KitWriter.{Measured}

unfoldable pub text_rules : ℕ → ℕ → ℕ → ℕ → List ℕ → List ℕ → List ℕ → ℕ → Verdict
text_rules m t M col self parity w bytes =
    let s : Params = params m t M col in
    kit_lengths s self parity w then length_rule 7 bytes (length (kit_bytes m t M self parity w)) then byte_rules s (interleavers s self parity) w [] []

-- "a definition gives this paper's number and values for each of its cases"; a refused call measures nothing
unfoldable pub measured_of : Result ℕ Refusal → Measured
measured_of (Ok n) = record { verdict = accepted; length = n }
measured_of (Err r) = record { verdict = refusal_verdict r; length = 0 }
