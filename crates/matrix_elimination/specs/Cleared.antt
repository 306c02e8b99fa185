-- What clearing leaves, byte by byte, in a matrix of n + 256 rows of w bytes of which the last 256 are a table.
--   RowsCleared n w b h from to m m₂     the rows from `from` to `to` of m took rows of the table
-- Assumes nothing.
use Rattle.std.specs.Prelude.{List, ◌≡◌, ℕ, ◌+◌, ◌*◌, ◌%◌, ◌^◌, ◌≤◌, ◌<◌, length, get_or}
use Rattle.std.specs.Int.Bits.{bit_xor}

-- m became m₂: each row took the row of the table that the first h bits of its byte b name
pub record RowsCleared (n w b h from to : ℕ) (m m₂ : List ℕ) : Type 0 where
  pub long : length m₂ ≡ length m
  pub before : (k c : ℕ) → k < from → c < w → get_or m₂ (k * w + c) 0 ≡ get_or m (k * w + c) 0
  pub within : (k c : ℕ) → from ≤ k → k < to → c < w
      → get_or m₂ (k * w + c) 0 ≡ bit_xor (get_or m (k * w + c) 0) (get_or m ((n + get_or m (k * w + b) 0 % 2 ^ h) * w + c) 0)
  pub after : (k c : ℕ) → to ≤ k → k < n + 256 → c < w → get_or m₂ (k * w + c) 0 ≡ get_or m (k * w + c) 0
