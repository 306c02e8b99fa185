-- Elimination in one packed matrix of n + 256 rows of 2 × row_bytes n bytes: a row below n has a row of the system and behind it a row of what was the
-- identity; the other 256 rows are a table of sums of rows.
--   row_width n               the bytes of a row
--   bit_at m w i j            bit j of row i, of w bytes
--   left, right              the bits of the two halves of a row
--   SpareZero n m            the spare bits of the right half are 0
--   RowSteps n m m₂          rows below n were added to rows below n and exchanged
--   NoPivot n lo k u         the rows from k on are 0 in the columns lo to k
--   TableOf n m lo h         the table holds the sums of h rows
-- Assumes nothing.
use Rattle.std.specs.Prelude.{◌≡◌, List, ℕ, ◌+◌, ◌*◌, ◌/◌, ◌%◌, ◌^◌, ◌≤◌, ◌<◌, length, get_or}
use Rattle.staircase.specs.Lists.{sum_bits}
use Rattle.staircase.specs.System.{row_bytes}
use Rattle.staircase.specs.Square.{BitMatrix, Reached, digit}

abbrev pub row_width : ℕ → ℕ
row_width n = 2 * row_bytes n

unfoldable pub bit_at : List ℕ → ℕ → ℕ → ℕ → ℕ
bit_at m w i j = digit (get_or m (i * w + j / 8) 0) (j % 8)

abbrev pub left : ℕ → List ℕ → ℕ → ℕ → ℕ
left n m i j = bit_at m (row_width n) i j

abbrev pub right : ℕ → List ℕ → ℕ → ℕ → ℕ
right n m i j = bit_at m (row_width n) i (8 * row_bytes n + j)

abbrev pub SpareZero : ℕ → List ℕ → Type 0
SpareZero n m = (i j : ℕ) → i < n → n ≤ j → j < 8 * row_bytes n → right n m i j ≡ 0

-- what the halves of m were reached from, those of m₂ are too
pub record RowSteps (n : ℕ) (m m₂ : List ℕ) : Type 0 where
  pub long : length m₂ ≡ length m
  pub reached : (s : ℕ → ℕ → ℕ) → BitMatrix s → Reached n s (left n m) (right n m) → Reached n s (left n m₂) (right n m₂)
  pub spare : SpareZero n m → SpareZero n m₂

abbrev pub NoPivot : ℕ → ℕ → ℕ → (ℕ → ℕ → ℕ) → Type 0
NoPivot n lo k u = (i j : ℕ) → k ≤ i → i < n → lo ≤ j → j ≤ k → u i j ≡ 0

-- row x of the table is the sum of the rows, from lo on, at which x has ones among its first h digits
abbrev pub TableOf : ℕ → List ℕ → ℕ → ℕ → Type 0
TableOf n m lo h = (x j : ℕ) → x < 2 ^ h → j < 8 * row_width n
    → bit_at m (row_width n) (n + x) j ≡ sum_bits h (λ q. digit x q * bit_at m (row_width n) (lo + q) j)
