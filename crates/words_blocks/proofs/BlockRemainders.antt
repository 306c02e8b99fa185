-- Sums of table entries are the remainders of the blocks of the words.
--   SameBlock                     two blocks agree in all places
--   part-powers                   a part of the table
--   column_sum-is, row_sum-is       the remainders of the blocks of a word
-- Assumes nothing.
use mathlib.Core.Path.{◌≡◌, ap, ap₂, ◌∙◌}
use mathlib.Core.List.{List}
use Prim.Native.Nat.{ℕ, ◌+◌, ◌-◌, ◌*◌, ◌≤◌, ◌<◌}
use native.Mathlib.Omega.{arith}
use lib.Arith.{digits_lt}
use lib.ListN.{get_or}
use Rattle.bch.specs.Polynomial.{◌⊕◌}
use Rattle.bch.specs.Powers.{power_mod, xor_sum}
use Rattle.bch.proofs.PowerSum.{xor_sum-same}
use Rattle.staircase.specs.Design.{Params, column_code, word_length}
use Rattle.staircase.specs.System.{Contents}
use Rattle.staircase.proofs.Entries.{column_remainder, row_remainder}
use Rattle.words_blocks.specs.Blocks.{part_sum, column_sum, row_sum, Powers}

-- two blocks agree in all places of a block
abbrev pub SameBlock : Params → Contents → Contents → Type 0
SameBlock s f g = (k : ℕ) → k < s.M * s.M → f k ≡ g k

module _ (s : Params) (positions : List ℕ) (P : Powers s positions) where
  -- a part of the table, for positions whose powers are given by e
  pub part-powers : (from w : ℕ) (b c e : ℕ → ℕ) → from + w ≤ word_length s → ((j : ℕ) → j < w → b j ≡ c j) → ((j : ℕ) → j < w → word_length s - 1 - (from + j) ≡ e j)
      → part_sum positions from w b ≡ xor_sum w (λ j. c j * power_mod s.g s.r (e j))
  unfolding part_sum
  part-powers from w b c e fits same exponents =
      xor_sum-same w (λ j. b j * get_or positions (from + j) 0) (λ j. c j * power_mod s.g s.r (e j))
      (λ j l. ap₂ ◌*◌ (same j l)
      (P.powers (from + j) (omega (arith, P.long)) ∙ ap (power_mod s.g s.r) (ap (λ (n : ℕ). n - 1 - (from + j)) P.long ∙ exponents j l)))

  pub row_sum-is : (b o before odd : Contents) → SameBlock s b before → SameBlock s o odd → (a : ℕ) → a < s.M
      → row_sum positions s.M b o a ≡ row_remainder s before odd a
  unfolding row_sum row_remainder
  row_sum-is b o before odd sb so a h =
      ap₂ ◌⊕◌
      (part-powers 0 s.M (λ j. b (a * s.M + j)) (λ j. before (a * s.M + j)) (λ j. word_length s - 1 - j) (omega arith) (λ j l. sb (a * s.M + j) (digits_lt h l)) (λ j l. omega arith))
      (part-powers s.M s.M (λ j. o (a * s.M + j)) (λ j. odd (a * s.M + j)) (λ j. word_length s - 1 - (s.M + j)) (omega arith) (λ j l. so (a * s.M + j) (digits_lt h l)) (λ j l. omega arith))

-- the table is that of the column words
module _ (s : Params) (positions : List ℕ) (P : Powers (column_code s) positions) where
  pub column_sum-is : (o e odd even : Contents) → SameBlock s o odd → SameBlock s e even → (a : ℕ) → a < s.M
      → column_sum positions s.M o e a ≡ column_remainder s odd even a
  unfolding column_sum column_remainder
  column_sum-is o e odd even so se a h =
      ap₂ ◌⊕◌
      (part-powers (column_code s) positions P 0 s.M (λ j. o (j * s.M + a)) (λ j. odd (j * s.M + a)) (λ j. word_length s - 1 - j) (omega arith) (λ j l. so (j * s.M + a) (digits_lt l h)) (λ j l. omega arith))
      (part-powers (column_code s) positions P s.M s.M (λ j. e (j * s.M + a)) (λ j. even (j * s.M + a)) (λ j. word_length s - 1 - (s.M + j)) (omega arith) (λ j l. se (j * s.M + a) (digits_lt l h)) (λ j l. omega arith))
