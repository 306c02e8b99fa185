-- Bits in packed bytes, the lowest bit of a byte first.
--   packed_bit row k        bit k of a packed row
--   plane_bit t n k x       entry (k, x) of a matrix of n columns in planes: plane b has n bytes, one a column, and holds the rows 8 b to 8 b + 7
--   Planes t n f           the planes t hold the entries f k x, in every row of every plane
--   padded_entry w n k x    entry (k, x) of a packed matrix of n rows, and 0 in the rows from n on
-- Assumes nothing.
use Rattle.std.specs.Prelude.{◌≡◌, cond, List, ℕ, ◌+◌, ◌*◌, ◌/◌, ◌%◌, ◌^◌, ◌<◌, ltb, get_or}
use Rattle.staircase.specs.System.{row_bytes, inverse_entry}

unfoldable pub packed_bit : List ℕ → ℕ → ℕ
packed_bit row k = get_or row (k / 8) 0 / 2 ^ (k % 8) % 2

unfoldable pub plane_bit : List ℕ → ℕ → ℕ → ℕ → ℕ
plane_bit t n k x = get_or t (k / 8 * n + x) 0 / 2 ^ (k % 8) % 2

abbrev pub Planes : List ℕ → ℕ → (ℕ → ℕ → ℕ) → Type 0
Planes t n f = (k x : ℕ) → k < 8 * row_bytes n → x < n → plane_bit t n k x ≡ f k x

abbrev pub padded_entry : List ℕ → ℕ → ℕ → ℕ → ℕ
padded_entry w n k x = cond (ltb k n) (inverse_entry w n k x) 0
