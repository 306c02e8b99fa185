-- The kept numbers of a frame's words, as the definitions have them.
--   kept_of    the numbers and marks in some bytes
--   AddedAt   of the first n numbers those of some places have got their powers and lost their marks, and no other has changed
-- Assumes nothing.
use Rattle.std.specs.Prelude.{◌≡◌, false, cond, List, ℕ, ◌*◌, ◌<◌, length, drop}
use Rattle.bch.specs.Polynomial.{◌⊕◌}
use Rattle.staircase.specs.Design.{Params}
use Rattle.staircase.specs.Kept.{Kept}
use Rattle.staircase.specs.Layout.{Place, powers_at, met_at}
use Rattle.decoder_kept.specs.Numbers.{number_at, marked_at}

abbrev pub kept_of : List ℕ → Kept
kept_of b = record { number = number_at b; mark = marked_at b }

-- behind the first n numbers nothing has changed
pub record AddedAt (s : Params) (n : ℕ) (cs : List Place) (b a : List ℕ) : Type 0 where
  pub long : length a ≡ length b
  pub numbers : (w : ℕ) → w < n → number_at a w ≡ number_at b w ⊕ powers_at s cs w
  pub marks : (w : ℕ) → w < n → marked_at a w ≡ cond (met_at cs w) false (marked_at b w)
  pub behind : drop (4 * n) a ≡ drop (4 * n) b
