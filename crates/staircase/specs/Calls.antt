-- What each call answers and leaves, for every argument. The contracts of the exported functions cite these. Working bytes are left open, so
-- a call is given only their number, `work`.
--   kit_verdict      the kit checker
--   encode_call      the encoder: its verdict and the redundancy buffer
--   words_call       the word checker: its verdict and the number of words outside the code
--   counts_of        what the decoder counts of a frame
--   decode_call      the decoder: its verdict, both buffers and the counts
--   show_call        showing a block or a group: its verdict and the stretch
-- Assumes nothing.
use Rattle.std.specs.Prelude.{List, [], ℕ, ◌-◌, ◌*◌, take, drop}
use Rattle.staircase.specs.Design.{Params, Interleavers, params, order}
use Rattle.staircase.specs.Frame.{Frame, words, outside}
use Rattle.staircase.specs.System.{redundancy}
use Rattle.staircase.specs.LineErrors.{line_errors}
use Rattle.staircase.specs.Decoder.{Decoded, rounds_allowed, decoded}
use Rattle.staircase.specs.Outcomes.{last_stuck}
use Rattle.staircase.specs.Rules.{Verdict, ◌then◌, Part, design_rules, count_rule, part_rule, rounds_rule, length_rule, list_lengths, kit_lengths, frame_lengths, kit_work, word_work, decoder_work, interleavers, list_rule, kit_rules, content_rules, frame_bits}
use Rattle.staircase.specs.Rules.Verdict.{accepted, refused}
use Rattle.staircase.specs.Rules.Part.{block, group}

-- "The kit checker has 1 to 3 and 6 to 9"
unfoldable pub kit_verdict : ℕ → ℕ → ℕ → ℕ → List ℕ → List ℕ → List ℕ → ℕ → Verdict
kit_verdict m t M col self parity w work =
    let s : Params = params m t M col in
    design_rules m t M col then kit_lengths s self parity w then length_rule 6 work (kit_work s) then kit_rules s (interleavers s self parity) w

-- ---- the encoder

-- "the encoder 1 to 4 and 6 to 10", with 10 before 9; "the encoder doesn't judge old redundancy"
unfoldable pub encode_verdict : ℕ → ℕ → ℕ → ℕ → ℕ → List ℕ → List ℕ → List ℕ → List ℕ → List ℕ → ℕ → Verdict
encode_verdict m t M col L self parity w info red work =
    let s : Params = params m t M col in
    design_rules m t M col then count_rule L
    then kit_lengths s self parity w then frame_lengths s L info red then length_rule 6 work (kit_work s)
    then content_rules s (interleavers s self parity) w info

pub record Encoded : Type 0 where
  pub verdict : Verdict
  pub red : List ℕ

-- "lent buffers stay untouched"
abbrev pub encoded_by : Verdict → List ℕ → List ℕ → Encoded
encoded_by accepted old new = record { verdict = accepted; red = new }
encoded_by (refused n p) old new = record { verdict = refused n p; red = old }

unfoldable pub encode_call : ℕ → ℕ → ℕ → ℕ → ℕ → List ℕ → List ℕ → List ℕ → List ℕ → List ℕ → ℕ → Encoded
encode_call m t M col L self parity w info red work =
    let s : Params = params m t M col in
    encoded_by (encode_verdict m t M col L self parity w info red work) red (redundancy s (interleavers s self parity) w L info)

-- ---- the word checker

-- "the word checker 1 to 4, 6, 7 and 10"
unfoldable pub words_verdict : ℕ → ℕ → ℕ → ℕ → ℕ → List ℕ → List ℕ → List ℕ → List ℕ → ℕ → Verdict
words_verdict m t M col L self parity info red work =
    let s : Params = params m t M col in
    design_rules m t M col then count_rule L
    then list_lengths s self parity then frame_lengths s L info red then length_rule 6 work (word_work s)
    then list_rule s (interleavers s self parity) then frame_bits info red

pub record Counted : Type 0 where
  pub verdict : Verdict
  pub outside : ℕ

abbrev pub counted_by : Verdict → ℕ → Counted
counted_by accepted n = record { verdict = accepted; outside = n }
counted_by (refused n p) o = record { verdict = refused n p; outside = 0 }

unfoldable pub words_call : ℕ → ℕ → ℕ → ℕ → ℕ → List ℕ → List ℕ → List ℕ → List ℕ → ℕ → Counted
words_call m t M col L self parity info red work =
    let s : Params = params m t M col in
    counted_by (words_verdict m t M col L self parity info red work) (outside s (interleavers s self parity) L (record { info = info; red = red }))

-- ---- the decoder

-- "the decoder 1 to 7 and 10"
unfoldable pub decode_verdict : ℕ → ℕ → ℕ → ℕ → ℕ → ℕ → List ℕ → List ℕ → List ℕ → List ℕ → ℕ → Verdict
decode_verdict m t M col L k self parity info red work =
    let s : Params = params m t M col in
    design_rules m t M col then count_rule L then rounds_rule k
    then list_lengths s self parity then frame_lengths s L info red then length_rule 6 work (decoder_work s L)
    then list_rule s (interleavers s self parity) then frame_bits info red

-- "The result: rounds made .., bits turned .., words outside the code at the end"; document 02: "The second number becomes the number of sent bits in
-- which the mended frame differs from the copy", "and the result gains the number of stuck verdicts in the last round made"
pub record Counts : Type 0 where
  pub rounds : ℕ
  pub turned : ℕ
  pub outside : ℕ
  pub stuck : ℕ

unfoldable pub counts_of : Params → Interleavers → ℕ → ℕ → Frame → Counts
counts_of s l L k f =
    let d : Decoded = decoded s l L k f in
    record {
      rounds = d.rounds;
      turned = line_errors f d.frame;
      outside = outside s l L d.frame;
      stuck = last_stuck (words s l L) (rounds_allowed k) f;
    }

abbrev pub no_counts : Counts
no_counts = record { rounds = 0; turned = 0; outside = 0; stuck = 0 }

pub record Corrected : Type 0 where
  pub verdict : Verdict
  pub frame : Frame
  pub counts : Counts

-- the frame before the call and after it; a refused call counts nothing
abbrev pub corrected_by : Verdict → Frame → Frame → Counts → Corrected
corrected_by accepted old new c = record { verdict = accepted; frame = new; counts = c }
corrected_by (refused n p) old new c = record { verdict = refused n p; frame = old; counts = no_counts }

unfoldable pub decode_call : ℕ → ℕ → ℕ → ℕ → ℕ → ℕ → List ℕ → List ℕ → List ℕ → List ℕ → ℕ → Corrected
decode_call m t M col L k self parity info red work =
    let s : Params = params m t M col in
    let l : Interleavers = interleavers s self parity in
    let f : Frame = record { info = info; red = red } in
    corrected_by (decode_verdict m t M col L k self parity info red work) f (decoded s l L k f).frame (counts_of s l L k f)

-- ---- showing

-- "showing 1 to 4 and 6"
unfoldable pub show_verdict : ℕ → ℕ → ℕ → ℕ → ℕ → Part → List ℕ → List ℕ → Verdict
show_verdict m t M col L part info red = design_rules m t M col then count_rule L then part_rule L part then frame_lengths (params m t M col) L info red

-- "A block or a group is shown as the stretch of whichever buffer holds it"
abbrev pub stretch : Params → Part → List ℕ → List ℕ → List ℕ
stretch s (block b) info red = take (s.M * s.M) (drop ((b - 1) * (s.M * s.M)) info)
stretch s (group i) info red = take (2 * order s) (drop ((i - 1) * (2 * order s)) red)

pub record Shown : Type 0 where
  pub verdict : Verdict
  pub bits : List ℕ

-- "it is empty exactly when refused"
abbrev pub shown_by : Verdict → List ℕ → Shown
shown_by accepted l = record { verdict = accepted; bits = l }
shown_by (refused n p) l = record { verdict = refused n p; bits = [] }

unfoldable pub show_call : ℕ → ℕ → ℕ → ℕ → ℕ → Part → List ℕ → List ℕ → Shown
show_call m t M col L part info red = shown_by (show_verdict m t M col L part info red) (stretch (params m t M col) part info red)
