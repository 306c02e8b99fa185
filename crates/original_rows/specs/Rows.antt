-- What the checks of a buffer of an original staircase frame judge: steps of the code, which no promise names.
--   BufferFits       a buffer of L blocks of bits
--   buffer_rules      rules 4 to 6 for the buffer alone
--   received_rules    rules 4, 6 and 10
-- Assumes nothing.
use Rattle.std.specs.Prelude.{◌≡◌, List, ℕ, ◌*◌, ◌≤◌, length}
use Rattle.bch.specs.Polynomial.{Bits}
use Rattle.staircase.specs.Design.{Params, most-blocks}
use Rattle.staircase.specs.Rules.{Verdict, ◌then◌, count_rule, rounds_rule, length_rule, info_length, bit_rule}
use Rattle.design.specs.declared.Design.{Design}
use Rattle.design.specs.Answers.{AllowedOriginal}

pub record BufferFits (d : Design) (L : ℕ) (l : List ℕ) : Type 0 where
  pub allowed : AllowedOriginal d
  pub few-blocks : L ≤ most-blocks
  pub long : length l ≡ L * (d.size * d.size)
  pub bits : Bits l

-- the encoder and the word checker, which have no rule 5, have 0 rounds, which pass it
unfoldable pub buffer_rules : Params → ℕ → ℕ → ℕ → Verdict
buffer_rules s L k have = count_rule L then rounds_rule k then length_rule 4 have (info_length s L)

unfoldable pub received_rules : Params → ℕ → List ℕ → Verdict
received_rules s L l = buffer_rules s L 0 (length l) then bit_rule 0 l
