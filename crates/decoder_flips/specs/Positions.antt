-- Some positions of a word, and a step for each of them: steps of the decoder, which no promise names.
--   SentAt     positions below n of a word that are sent
--   Through    from some bytes to others by a step for each position, the last position's first
-- Assumes nothing.
use Rattle.std.specs.Prelude.{◌≡◌, true, List, [], ◌∷◌, ℕ, ◌<◌, get_or}
use Rattle.staircase.specs.Frame.{Site}
use Rattle.staircase.specs.Frame.Site.{unsent}
use Rattle.staircase.specs.Decoder.{all_sent}

unfoldable pub SentAt : ℕ → List Site → List ℕ → Type 0
SentAt n w [] = Unit
SentAt n w (p ∷ ps) = (p < n) × (all_sent (get_or w p unsent ∷ []) ≡ true) × SentAt n w ps

unfoldable pub Through : (ℕ → List ℕ → List ℕ → Type 0) → List ℕ → List ℕ → List ℕ → Type 0
Through G [] b b' = b ≡ b'
Through G (p ∷ ps) b b' = (m : List ℕ) × Through G ps b m × G p m b'
