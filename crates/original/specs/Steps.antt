-- Steps of the encoder, which no promise names.
--   cleared   the buffer with its parity zeroed
-- Assumes nothing.
use Rattle.std.specs.Prelude.{cond, List, ℕ, get_or, length}
use Rattle.staircase.specs.Lists.{tabulate}
use Rattle.staircase.specs.Design.{Params}
use Rattle.original.specs.Rules.{in_information}

unfoldable pub cleared : Params → List ℕ → List ℕ
cleared s l = tabulate (length l) (λ k. cond (in_information s k) (get_or l k 0) 0)
