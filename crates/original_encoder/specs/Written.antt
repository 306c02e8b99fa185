-- What the steps of the encoder leave in the buffer.
--   row_remainders    the remainders of the rows of a block
--   digit            bit j of the r digits of a number, the highest first
--   DigitsAt         the digits of a number are written from a byte on, and nothing else
--   RowsAt           the digits of a number for each row are written at the row's end
--   ParityZero       the parity is 0
--   BufferLong       a buffer of L blocks
--   width_bits        rule 10 over the first columns of rows
--   encode_rules      rules 4, 6 and 10
-- Assumes nothing.
use Rattle.std.specs.Prelude.{◌≡◌, false, cond, List, ℕ, ◌+◌, ◌-◌, ◌*◌, ◌/◌, ◌%◌, ◌^◌, ◌≤◌, ◌<◌, ltb, length, get_or}
use Rattle.bch.specs.Polynomial.{remainder}
use Rattle.staircase.specs.Lists.{tabulate}
use Rattle.staircase.specs.Design.{Params, most-blocks}
use Rattle.staircase.specs.Frame.{read}
use Rattle.staircase.specs.Rules.{Verdict, ◌then◌, refuse_first}
use Rattle.original.specs.Frame.{row_sites, buffer_of}
use Rattle.original.specs.Rules.{info_bits}
use Rattle.design.specs.declared.Design.{Design}
use Rattle.design.specs.Answers.{AllowedOriginal}
use Rattle.original_rows.specs.Rows.{buffer_rules}

-- of the block that b blocks precede
unfoldable pub row_remainders : Params → List ℕ → ℕ → List ℕ
row_remainders s l b = tabulate s.M (λ a. remainder s.g s.r (read (buffer_of l) (row_sites s b a)))

abbrev pub digit : ℕ → ℕ → ℕ → ℕ
digit r x j = x / 2 ^ (r - 1 - j) % 2

-- the first n of the r digits of x
pub record DigitsAt (n r from x : ℕ) (old new : List ℕ) : Type 0 where
  pub long : length new ≡ length old
  pub before : (k : ℕ) → k < from → get_or new k 0 ≡ get_or old k 0
  pub behind : (k : ℕ) → from + n ≤ k → get_or new k 0 ≡ get_or old k 0
  pub digits : (j : ℕ) → j < n → get_or new (from + j) 0 ≡ digit r x j

-- of the rows 0 to n - 1, of `size` bytes each, from byte `at` on
pub record RowsAt (n size r at : ℕ) (x : ℕ → ℕ) (old new : List ℕ) : Type 0 where
  pub long : length new ≡ length old
  pub before : (k : ℕ) → k < at → get_or new k 0 ≡ get_or old k 0
  pub behind : (k : ℕ) → at + n * size ≤ k → get_or new k 0 ≡ get_or old k 0
  pub info : (a j : ℕ) → a < n → j < size - r → get_or new (at + a * size + j) 0 ≡ get_or old (at + a * size + j) 0
  pub digits : (a j : ℕ) → a < n → j < r → get_or new (at + a * size + (size - r) + j) 0 ≡ digit r (x a) j

abbrev pub ParityZero : Params → List ℕ → Type 0
ParityZero s l = (k : ℕ) → s.M - s.r ≤ k % s.M → get_or l k 0 ≡ 0

pub record BufferLong (d : Design) (L : ℕ) (l : List ℕ) : Type 0 where
  pub allowed : AllowedOriginal d
  pub few-blocks : L ≤ most-blocks
  pub long : length l ≡ L * (d.size * d.size)

unfoldable pub width_bits : ℕ → ℕ → List ℕ → Verdict
width_bits size width l = refuse_first 10 0 (length l) (λ k. cond (ltb (k % size) width) (ltb 1 (get_or l k 0)) false)

unfoldable pub encode_rules : Params → ℕ → List ℕ → Verdict
encode_rules s L l = buffer_rules s L 0 (length l) then info_bits s l
