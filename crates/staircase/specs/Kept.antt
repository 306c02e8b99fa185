-- Remainders that are kept while bits of a frame are flipped: steps of the decoder, which no promise names.
--   Kept              for each word a number, and a mark: no correction was found, and no bit of the word was flipped since
--   Holds             the number and the mark of a word are right in a frame
--   Keeps, KeepsBut   those of the words 0 to N - 1 are; those of all of them but one are
-- Assumes nothing.
use Rattle.std.specs.Prelude.{◌≡◌, Bool, true, ◌≢◌, [], ℕ, ◌<◌}
use Rattle.bch.specs.Polynomial.{remainder}
use Rattle.staircase.specs.Frame.{Frame, Word, read}
use Rattle.staircase.specs.Decoder.{correction}

pub record Kept : Type 0 where
  pub number : ℕ → ℕ
  pub mark : ℕ → Bool

-- the word's remainder; where it is marked, correcting it flips nothing
pub record Holds (w : Word) (n : ℕ) (m : Bool) (f : Frame) : Type 0 where
  pub number : n ≡ remainder w.code.g w.code.r (read f w.sites)
  pub mark : m ≡ true → correction w.code f w.sites ≡ []

abbrev pub Keeps : (ℕ → Word) → ℕ → Frame → Kept → Type 0
Keeps W N f k = (w : ℕ) → w < N → Holds (W w) (k.number w) (k.mark w) f

abbrev pub KeepsBut : (ℕ → Word) → ℕ → ℕ → Frame → Kept → Type 0
KeepsBut W N u f k = (w : ℕ) → w < N → w ≢ u → Holds (W w) (k.number w) (k.mark w) f
