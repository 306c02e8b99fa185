-- Document 02, "a writer of kit text": what it answers and leaves, and the length of its text. The text is `kit_bytes` of KitText.antt.
--   write_verdict    rules 1 to 3 and 6 to 8
--   write_call       its verdict and the text's buffer
--   text_length      how long the text of a kit is
--   measure_verdict  rules 1 to 3, and rule 6 for the two lists
--   measure_call     its verdict and the length
--   HoldsBytes, WrittenReads   what the writer's call leaves, as the reader's call reads it; `write_then_read` in proofs/KitWritten.antt shows it
-- Assumes nothing.
use Rattle.std.specs.Prelude.{◌≡◌, List, [], ℕ, ◌<◌, length, get_or}
use Rattle.staircase.specs.Design.{Params, params}
use Rattle.staircase.specs.Rules.{Verdict, ◌then◌, design_rules, length_rule, list_lengths, kit_lengths, interleavers, list_rule, spare_rule}
use Rattle.staircase.specs.Rules.Verdict.{accepted, refused}
use Rattle.text.specs.Rules.{kept}
use Rattle.text.specs.KitText.{kit_bytes}
use Rattle.text.specs.KitReader.{head_number, scan_kit, read_kit_call}

-- "The writer refuses by rules 1 to 3 and 6 to 8; rule 6 gains place 7, a text buffer whose length isn't the text's (there each entry counts with
-- all its digits, even five)"
unfoldable pub write_verdict : ℕ → ℕ → ℕ → List ℕ → List ℕ → List ℕ → List ℕ → Verdict
write_verdict m t M self parity w text =
    let s : Params = params m t M 0 in
    design_rules m t M 0 then kit_lengths s self parity w then length_rule 7 (length text) (length (kit_bytes m t M self parity w))
    then list_rule s (interleavers s self parity) then spare_rule s w

pub record KitWritten : Type 0 where
  pub verdict : Verdict
  pub text : List ℕ

unfoldable pub write_call : ℕ → ℕ → ℕ → List ℕ → List ℕ → List ℕ → List ℕ → KitWritten
write_call m t M self parity w text =
    let v : Verdict = write_verdict m t M self parity w text in
    record { verdict = v; text = kept v (kit_bytes m t M self parity w) text }

-- ---- the length of a text

-- The length of a kit's text, the same for every inverse (`text-length` in proofs/KitSpelled.antt): here that of no bytes.
unfoldable pub text_length : ℕ → ℕ → ℕ → List ℕ → List ℕ → ℕ
text_length m t M self parity = length (kit_bytes m t M self parity [])

-- The design and the lists' lengths are judged: the entries themselves may be any.
unfoldable pub measure_verdict : ℕ → ℕ → ℕ → List ℕ → List ℕ → Verdict
measure_verdict m t M self parity = design_rules m t M 0 then list_lengths (params m t M 0) self parity

pub record Measured : Type 0 where
  pub verdict : Verdict
  pub length : ℕ

-- a refused call measures nothing
abbrev pub measured_by : Verdict → ℕ → Measured
measured_by accepted n = record { verdict = accepted; length = n }
measured_by (refused n p) l = record { verdict = refused n p; length = 0 }

unfoldable pub measure_call : ℕ → ℕ → ℕ → List ℕ → List ℕ → Measured
measure_call m t M self parity = measured_by (measure_verdict m t M self parity) (text_length m t M self parity)

-- ---- "what is written reads back to the same kit"

-- what every slice of bytes is
abbrev pub HoldsBytes : List ℕ → Type 0
HoldsBytes l = (k : ℕ) → get_or l k 0 < 256

pub record WrittenReads (m t M : ℕ) (self parity w text : List ℕ) : Type 0 where
  -- the text that an accepted call leaves is a kit text of the same design
  pub scans : scan_kit (write_call m t M self parity w text).text ≡ accepted
  pub first : head_number (write_call m t M self parity w text).text 0 ≡ m
  pub second : head_number (write_call m t M self parity w text).text 1 ≡ t
  pub third : head_number (write_call m t M self parity w text).text 2 ≡ M
  -- the reader accepts it, and leaves the kit that was written in slices of the same lengths, whatever they held
  pub reads : (self₂ parity₂ w₂ : List ℕ) → length self₂ ≡ length self → length parity₂ ≡ length parity → length w₂ ≡ length w
      → read_kit_call (write_call m t M self parity w text).text self₂ parity₂ w₂ ≡ record { verdict = accepted; self = self; parity = parity; inverse = w }
