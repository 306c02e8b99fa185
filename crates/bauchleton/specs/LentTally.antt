-- What a decode with a tally and a report answer and leave, for a host that lends the totals as a slice of six numbers.
--   tally_in                   the totals of a slice
--   tally_length               place 9 of rule 6
--   lent_verdict               the decoder's rules with the report's and the tally's lengths, the last of rule 6, and with rule 16
--   length_first               rule 6 at place 9 for a refusal by a later rule: a step of the code, which no promise names
--   LentTally, lent_tally_call  the answer of a decode, and what it leaves
--   reportVerdict, report_answer   a report
-- Assumes nothing.
use Rattle.std.specs.Prelude.{cond, List, [], ◌∷◌, ℕ, ltb, length, get_or}
use Rattle.staircase.specs.Frame.{frame_of}
use Rattle.staircase.specs.Rules.{Verdict, ◌then◌, length_rule}
use Rattle.staircase.specs.Rules.Verdict.{accepted, refused}
use Rattle.staircase.specs.Calls.{Corrected, corrected_by}
use Rattle.staircase.specs.Tally.{Tally, plus, totals, Decode, call_of, contribution, full_rule}
use Rattle.staircase.specs.Report.{Report, report_call}
use Rattle.bauchleton.specs.Report.{numbers_for, bytes_for, report_length}

-- "frames, sent bits, bits turned, rounds, words outside, stuck words"
abbrev pub tally_in : List ℕ → Tally
tally_in l =
    record { frames = get_or l 0 0; bits = get_or l 1 0; turned = get_or l 2 0; rounds = get_or l 3 0; outside = get_or l 4 0; stuck = get_or l 5 0 }

-- place 9 of rule 6: a tally has six totals
abbrev pub tally_length : List ℕ → Verdict
tally_length l = length_rule 9 (length l) 6

unfoldable pub lent_verdict : List ℕ → List ℕ → Decode → Verdict
lent_verdict report l x = numbers_for x then report_length report then tally_length l then bytes_for x then full_rule (tally_in l)

unfoldable pub length_first : Verdict → Verdict
length_first accepted = refused 6 9
length_first (refused n p) = cond (ltb 6 n) (refused 6 9) (refused n p)

pub record LentTally : Type 0 where
  pub corrected : Corrected
  pub tally : List ℕ

-- "a refused decode changes no total"
abbrev pub tally_left : Verdict → List ℕ → Tally → List ℕ
tally_left accepted l y = totals y
tally_left (refused n p) l y = l

unfoldable pub lent_tally_call : List ℕ → List ℕ → Decode → LentTally
lent_tally_call report l x =
    record {
      corrected = corrected_by (lent_verdict report l x) (frame_of x.info x.red) (call_of x).frame (call_of x).counts;
      tally = tally_left (lent_verdict report l x) l (plus (tally_in l) (contribution x));
    }

-- "each total, and the share of turned bits"
abbrev pub reported : Report → List ℕ
reported r =
    let y : Tally = r.totals in
    0 ∷ y.frames ∷ y.bits ∷ y.turned ∷ y.rounds ∷ y.outside ∷ y.stuck ∷ r.share.top ∷ r.share.bottom ∷ []

-- the place, and eight numbers; a slice that is no tally has none
unfoldable pub report_answer : Verdict → List ℕ → List ℕ
report_answer accepted l = reported (report_call (tally_in l))
report_answer (refused n p) l = p ∷ 0 ∷ 0 ∷ 0 ∷ 0 ∷ 0 ∷ 0 ∷ 0 ∷ 0 ∷ []
