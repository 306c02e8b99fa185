-- What each call stores into the slice that it is lent for its answer: the refusal's place, then what the call tells, 0 where it is refused.
--   design_answer      of a design: r, n and k
--   words_answer       of the word checker: the words outside the code
--   corrected_answer   of the decoder and the loopback: four counts
--   show_answer        of showing: the length of the stretch
--   shown_part         what is shown: a block or a group
--   zeros, answer_by   of a call that tells some numbers: these, or as many zeros
--   pasted            a lent slice after a stretch was copied to its start, which is only done where it fits
-- Assumes nothing.
use Rattle.std.specs.Prelude.{cond, List, [], ◌∷◌, ◌++◌, ℕ, ◌+◌, ◌*◌, leb, eqb, length, drop}
use Rattle.staircase.specs.Design.{Params, word_length}
use Rattle.staircase.specs.Rules.{Verdict, Part}
use Rattle.staircase.specs.Rules.Verdict.{accepted, refused}
use Rattle.staircase.specs.Rules.Part.{block, group}
use Rattle.staircase.specs.Calls.{Counted, Corrected, Shown}
use Rattle.rules_verdict.specs.Number.{place_of}

-- "r = m × t, n = 2M + 2r, k = 2M + r"
unfoldable pub design_answer : Verdict → Params → List ℕ
design_answer accepted s = 0 ∷ s.r ∷ word_length s ∷ (2 * s.M + s.r) ∷ []
design_answer (refused n p) s = p ∷ 0 ∷ 0 ∷ 0 ∷ []

-- "The word checker counts the words outside the code"
abbrev pub words_answer : Counted → List ℕ
words_answer c = place_of c.verdict ∷ c.outside ∷ []

-- "The result: rounds made .., bits turned .., words outside the code at the end", and "the number of stuck verdicts in the last round made"
abbrev pub corrected_answer : Corrected → List ℕ
corrected_answer c = place_of c.verdict ∷ c.counts.rounds ∷ c.counts.turned ∷ c.counts.outside ∷ c.counts.stuck ∷ []

-- "A block or a group is shown as the stretch of whichever buffer holds it"
abbrev pub show_answer : Shown → List ℕ
show_answer s = place_of s.verdict ∷ length s.bits ∷ []

unfoldable pub shown_part : ℕ → ℕ → Part
shown_part kind n = cond (eqb kind 0) (block n) (group n)

unfoldable pub pasted : List ℕ → List ℕ → List ℕ
pasted s old = cond (leb (length s) (length old)) (s ++ drop (length s) old) old

-- a list of as many zeros
unfoldable pub zeros : List ℕ → List ℕ
zeros [] = []
zeros (x ∷ l) = 0 ∷ zeros l

-- the place and some numbers, "0 where the call is refused"
unfoldable pub answer_by : Verdict → List ℕ → List ℕ
answer_by accepted l = 0 ∷ l
answer_by (refused n p) l = p ∷ zeros l
