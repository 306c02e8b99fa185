-- Document 01, "System and kit": "All words of a group can be codewords exactly when A y = c." The two sides of this sentence for group i, where f, o
-- and e are the contents of B(2i-2), B(2i-1) and B(2i), y those of Y and p those of P. The theorem is `system_exact` in proofs/Solvable.antt.
--   Completes s l f o e y p   with this Y and this P all words of the group are codewords
--   Solves s l f o e y        A y = c
-- Assumes nothing.
use Rattle.std.specs.Prelude.{◌≡◌, true, ℕ, ◌<◌}
use Rattle.bch.specs.Code.{is_codeword}
use Rattle.staircase.specs.Design.{Params, Interleavers, column_generator, order}
use Rattle.staircase.specs.Word.{row_word, column_word}
use Rattle.staircase.specs.System.{Contents, unstack, system_entry, constant_entry, apply}

-- P has bits, and the row words and column words 0 to M-1 are codewords; X and Q are read in Y and P by the lists
pub record Completes (s : Params) (l : Interleavers) (f o e y p : Contents) : Type 0 where
  pub bits : (q : ℕ) → p q < 2
  pub rows : (a : ℕ) → a < s.M → is_codeword s.g s.r (row_word s l f o y p a) ≡ true
  pub columns : (a : ℕ) → a < s.M → is_codeword (column_generator s) s.r (column_word s o e y p a) ≡ true

-- "A y = c", entry by entry; "Stack Y column by column to y"
abbrev pub Solves : Params → Interleavers → Contents → Contents → Contents → Contents → Type 0
Solves s l f o e y = (k : ℕ) → k < order s → apply (order s) (system_entry s l) (λ j. y (unstack s j)) k ≡ constant_entry s l f o e k
