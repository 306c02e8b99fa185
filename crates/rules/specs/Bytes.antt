-- Rules 7, 8 and 10: what the bytes of a call's slices hold. Where rule 9 is judged, it comes after them.
--   byte_rules       the rules; a call without an inverse has an empty one, and one that does not judge the redundancy an empty one too
--   buffer_verdict   rules 4 to 6 and 10 for the buffer of an original frame
--   Measured        what they ask of the slices' lengths, which rules 1 to 6 give
-- Assumes nothing.
use Rattle.std.specs.Prelude.{◌≡◌, List, ℕ, ◌+◌, ◌*◌, ◌^◌, ◌<◌, length}
use Rattle.staircase.specs.Design.{Params, Interleavers}
use Rattle.staircase.specs.System.{row_bytes}
use Rattle.staircase.specs.Rules.{Verdict, ◌then◌, list_rule, spare_rule, bit_rule, frame_bits}
use Rattle.design.specs.declared.Design.{Design}
use Rattle.design.specs.Answers.{Allowed}
use Rattle.design.specs.Sizes.{order_of}
use Rattle.rules.specs.declared.lengths.Lengths.{Lengths}
use Rattle.rules.specs.Lengths.{buffer_lengths, size_rules}

unfoldable pub byte_rules : Params → Interleavers → List ℕ → List ℕ → List ℕ → Verdict
byte_rules s l w info red = list_rule s l then spare_rule s w then frame_bits info red

unfoldable pub buffer_verdict : ℕ → ℕ → Lengths → List ℕ → ℕ → Verdict
buffer_verdict L k due l work = size_rules L k (buffer_lengths (length l) work) due then bit_rule 0 l

pub record Measured (d : Design) (own parity w info red marks : List ℕ) : Type 0 where
  pub allowed : Allowed d
  pub own_length : length own ≡ 2 * order_of d
  pub parity_length : length parity ≡ 2 * order_of d
  pub inverse_length : 0 < length w → length w ≡ order_of d * row_bytes (order_of d)
  pub frame_small : length info + length red < 2 ^ 63
  pub marks_length : length marks ≡ order_of d
