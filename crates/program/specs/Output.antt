-- What a program prints, in a lent buffer.
--   Printed          a text at the start of a lent buffer that has room for it
--   output_in, output_length, Output   what a program prints, at the start of any lent buffer: one below 262,144 bytes is left as it was
-- Assumes nothing.
use Rattle.std.specs.Prelude.{◌≡◌, cond, List, ℕ, ◌≤◌, leb, length, take}
use Rattle.std.proofs.lemmas.List.Edits.{sets}

-- ---- a text at the start of a lent buffer

pub record Printed (t : List ℕ) (n : ℕ) (old new : List ℕ) : Type 0 where
  pub count : n ≡ length t
  pub within : n ≤ length old
  pub bytes : new ≡ sets old 0 t

-- ---- what a program prints, at the start of any lent buffer

-- no output of a program is longer
abbrev pub most-output : ℕ
most-output = 262144

-- a lent buffer after a program's output t was written to its start, which is only done where it has most-output bytes
unfoldable pub output_in : List ℕ → List ℕ → List ℕ
output_in t old = cond (leb most-output (length old)) (sets old 0 t) old

-- the number of bytes written
unfoldable pub output_length : List ℕ → List ℕ → ℕ
output_length t old = cond (leb most-output (length old)) (length t) 0

-- `within` and `part` follow from the others; they are stated for a caller who takes the first n bytes
pub record Output (t : List ℕ) (n : ℕ) (old new : List ℕ) : Type 0 where
  pub count : n ≡ output_length t old
  pub within : n ≤ length old
  pub part : n ≡ length (take n new)
  pub bytes : new ≡ output_in t old
