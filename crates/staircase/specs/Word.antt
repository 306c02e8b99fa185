-- Document 01, "Frame": which entries of blocks, Y and P a group's words have, and in which order. The entries may be of any type:
-- bits, or the places of bits in the buffers. A block, Y and P are functions from the place in their row by row order.
--   row_info, row_word         row word a, to the end of X and whole
--   column_info, column_word   column word a, to the end of Y and whole
-- Assumes nothing.
use Rattle.std.specs.Prelude.{List, ◌++◌, ℕ, ◌+◌, ◌*◌, get_or}
use Rattle.staircase.specs.Lists.{tabulate}
use Rattle.staircase.specs.Design.{Params, Interleavers}

module _ {S : Type 0} (s : Params) (l : Interleavers) where
  -- "row a of B(2i-2), of B(2i-1), of X". The entry at row a, column b of X has place b × M + a. The self list sends it to a place of the
  -- M × r matrix whose transpose is Y; column by column there is row by row in Y, so that place is the place in Y.
  unfoldable pub row_info : (ℕ → S) → (ℕ → S) → (ℕ → S) → ℕ → List S
  row_info before odd y a =
      tabulate s.M (λ j. before (a * s.M + j)) ++ tabulate s.M (λ j. odd (a * s.M + j))
      ++ tabulate s.r (λ b. y (get_or l.self (b * s.M + a) 0))

  -- "of Q", likewise by the parity list from P
  unfoldable pub row_word : (ℕ → S) → (ℕ → S) → (ℕ → S) → (ℕ → S) → ℕ → List S
  row_word before odd y p a = row_info before odd y a ++ tabulate s.r (λ b. p (get_or l.parity (b * s.M + a) 0))

module _ {S : Type 0} (s : Params) where
  -- "column a of B(2i-1), of B(2i), of Y"
  unfoldable pub column_info : (ℕ → S) → (ℕ → S) → (ℕ → S) → ℕ → List S
  column_info odd even y a =
      tabulate s.M (λ j. odd (j * s.M + a)) ++ tabulate s.M (λ j. even (j * s.M + a)) ++ tabulate s.r (λ b. y (b * s.M + a))

  -- "of P"
  unfoldable pub column_word : (ℕ → S) → (ℕ → S) → (ℕ → S) → (ℕ → S) → ℕ → List S
  column_word odd even y p a = column_info odd even y a ++ tabulate s.r (λ b. p (b * s.M + a))
