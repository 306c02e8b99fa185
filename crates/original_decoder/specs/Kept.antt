-- The kept bytes of an original frame: steps of the decoder, which no promise names.
--   numbers_in, marks_in   the parts of the kept bytes: the numbers of all words, and behind them the marks of line errors
--   BufferKept           a buffer of blocks with the kept numbers of all its words
-- Assumes nothing.
use Rattle.std.specs.Prelude.{◌≡◌, List, ℕ, ◌+◌, ◌*◌, ◌/◌, length, take, drop}
use Rattle.staircase.specs.Kept.{Keeps}
use Rattle.decoder_kept.specs.Words.{kept_of}
use Rattle.original.specs.Frame.{buffer_of}
use Rattle.original.specs.Crossing.{row_count, row_word}
use Rattle.design.specs.declared.Design.{Design}
use Rattle.design.specs.Sizes.{params_of}
use Rattle.original_rows.specs.Rows.{BufferFits}

abbrev pub numbers_in : Design → ℕ → List ℕ → List ℕ
numbers_in d L kept = take (4 * row_count (params_of d) L) kept

abbrev pub marks_in : Design → ℕ → List ℕ → List ℕ
marks_in d L kept = drop (4 * row_count (params_of d) L) kept

-- the kept bytes are as many as the decoder's working bytes
pub record BufferKept (d : Design) (L : ℕ) (buffer kept : List ℕ) : Type 0 where
  pub frame : BufferFits d L buffer
  pub long : length kept ≡ 4 * row_count (params_of d) L + (L * (d.size * d.size) + 7) / 8
  pub numbers : Keeps (row_word (params_of d)) (row_count (params_of d) L) (buffer_of buffer) (kept_of (numbers_in d L kept))
