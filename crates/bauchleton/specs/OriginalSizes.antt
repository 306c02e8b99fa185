-- The order of a design, and the lengths of the slices of an original frame.
--   order_answer             the order
--   original_sizes_verdict    rules 1, 2, 19 and 4
--   original_lengths         the lengths
--   original_sizes_answer     what is told
-- Assumes nothing.
use Rattle.std.specs.Prelude.{List, [], ◌∷◌, ℕ}
use Rattle.staircase.specs.Design.{Params, order}
use Rattle.staircase.specs.Rules.{Verdict, ◌then◌, count_rule, info_length}
use Rattle.original.specs.Rules.{row_length, original_rules, original_work}
use Rattle.bauchleton.specs.Answers.{answer_by}

-- "M × r"
abbrev pub order_answer : Verdict → Params → List ℕ
order_answer v s = answer_by v (order s ∷ [])

-- "Rule 2 reads 2M for n; rule 3 doesn't apply."
abbrev pub original_sizes_verdict : ℕ → ℕ → ℕ → ℕ → Verdict
original_sizes_verdict m t M L = original_rules m t M 0 then count_rule L

-- r; "Word length is 2M"; "Whole blocks stand in one buffer"; the decoder's working bytes
abbrev pub original_lengths : Params → ℕ → List ℕ
original_lengths s L = s.r ∷ row_length s ∷ info_length s L ∷ original_work s L ∷ []

abbrev pub original_sizes_answer : Verdict → Params → ℕ → List ℕ
original_sizes_answer v s L = answer_by v (original_lengths s L)
