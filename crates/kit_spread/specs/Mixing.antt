-- Steps of the code: an entry of a mixed list.
--   table_to s by rows p   the place to which place p goes, where `rows` has the r rows of each column word, one column word after the other
-- Assumes nothing.
use Rattle.std.specs.Prelude.{List, ℕ, ◌+◌, ◌*◌, ◌/◌, get_or}
use Rattle.staircase.specs.Design.{Params}
use Rattle.staircase.specs.Mixed.{column_to}

unfoldable pub table_to : Params → ℕ → List ℕ → ℕ → ℕ
table_to s by rows p = get_or rows (column_to s by p * s.r + p / s.M) 0 * s.M + column_to s by p
