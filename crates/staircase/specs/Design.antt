-- Document 01, "Design and BCH words": the limits and the sizes of a design.
--   least-m .. most-rounds   the limits
--   Params, params           what the words of a design need
--   column_generator, column_code   the code of column words
--   word_length s             n
--   order s                  M × r: entries of a list, of Y and of P, rows of the system
--   Limits m t M col         the design is an allowed one
--   Interleavers             the two lists
-- Assumes nothing.
use Rattle.std.specs.Prelude.{cond, List, ℕ, ◌+◌, ◌-◌, ◌*◌, ◌^◌, ◌≤◌, eqb}
use Rattle.bch.specs.Code.{generator}
use Rattle.bch.specs.Mirror.{mirror}

-- "m (4 to 10), t (1 to 3) and M (1 to 500)"
abbrev pub least_m : ℕ
least_m = 4

abbrev pub most-m : ℕ
most-m = 10

abbrev pub most-t : ℕ
most-t = 3

abbrev pub most-M : ℕ
most-M = 500

-- document 02: "as a number 0 or 1"
abbrev pub most-col : ℕ
most-col = 1

-- "M × r at most 4,096"
abbrev pub most-order : ℕ
most-order = 4096

-- "L from 1 to 4,096"
abbrev pub most-blocks : ℕ
most-blocks = 4096

-- "5 rounds .. above 64"
abbrev pub most-rounds : ℕ
most-rounds = 64

-- Rows and columns M of a block, redundancy bits r of a word, errors t that are corrected, generator g of row words, column code col.
pub record Params : Type 0 where
  pub M : ℕ
  pub r : ℕ
  pub t : ℕ
  pub g : ℕ
  pub col : ℕ

-- document 02: "a column code: same, or mirrored by the reversed generator polynomial (as a number 0 or 1 ..)"
unfoldable pub column_generator : Params → ℕ
column_generator s = cond (eqb s.col 0) s.g (mirror s.r s.g)

-- the code of the column words
abbrev pub column_code : Params → Params
column_code s = record { M = s.M; r = s.r; t = s.t; g = column_generator s; col = s.col }

abbrev pub mirrored : Params → Params
mirrored s = record { M = s.M; r = s.r; t = s.t; g = mirror s.r s.g; col = s.col }

-- "r = m × t"
abbrev pub params : ℕ → ℕ → ℕ → ℕ → Params
params m t M col = record { M = M; r = m * t; t = t; g = generator m t; col = col }

-- "n = 2M + 2r"
abbrev pub word_length : Params → ℕ
word_length s = 2 * s.M + 2 * s.r

-- "M × r"
abbrev pub order : Params → ℕ
order s = s.M * s.r

-- "A design is m (4 to 10), t (1 to 3) and M (1 to 500) .. with n at most 2^m - 1 and M × r at most 4,096"
pub record Limits (m t M col : ℕ) : Type 0 where
  pub m-low : least_m ≤ m
  pub m-high : m ≤ most-m
  pub t-low : 1 ≤ t
  pub t-high : t ≤ most-t
  pub M-low : 1 ≤ M
  pub M-high : M ≤ most-M
  pub col-high : col ≤ most-col
  pub n_high : word_length (params m t M col) ≤ 2 ^ m - 1
  pub order-high : order (params m t M col) ≤ most-order

-- "A list sends the bit at place p to place list[p]": the entries of the self list and of the parity list.
pub record Interleavers : Type 0 where
  pub self : List ℕ
  pub parity : List ℕ
