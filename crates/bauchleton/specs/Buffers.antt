-- In how many places two buffers of bits differ, as a host is told it.
--   differences_verdict   rule 6 at 4 where their lengths differ
--   differences_answer    the number of places
-- Assumes nothing.
use Rattle.std.specs.Prelude.{List, [], ◌∷◌, length, ℕ}
use Rattle.bch.specs.Code.{distance}
use Rattle.staircase.specs.Rules.{Verdict, length_rule}
use Rattle.bauchleton.specs.Answers.{answer_by}

-- "6 length: .. first slice of a wrong length": the second, which has to have the length of the first; a plain buffer has place 4
abbrev pub differences_verdict : List ℕ → List ℕ → Verdict
differences_verdict a b = length_rule 4 (length b) (length a)

-- "the number of sent bits in which the mended frame differs", of any two buffers; rule 10 is not asked, and bytes are compared as they are
abbrev pub differences_answer : List ℕ → List ℕ → List ℕ
differences_answer a b = answer_by (differences_verdict a b) (distance a b ∷ [])
