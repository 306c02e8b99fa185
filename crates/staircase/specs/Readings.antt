-- Document 02, U2: the bits of a word that are sent, which are those that its check reads.
--   is_sent, sent_among   whether a site is sent, and how many of a word's are
--   has_unsent           whether the words of a line have an unsent block
--   reads_of             how many bits of a word are read
-- Assumes nothing.
use Rattle.std.specs.Prelude.{Bool, cond, ◌||◌, List, [], ◌∷◌, ℕ, ◌+◌, ◌-◌, ltb, eqb}
use Rattle.staircase.specs.Design.{Params, word_length}
use Rattle.staircase.specs.Frame.{Site}
use Rattle.staircase.specs.Frame.Site.{unsent, in_info, in_red}

abbrev pub is_sent : Site → ℕ
is_sent unsent = 0
is_sent (in_info k) = 1
is_sent (in_red k) = 1

unfoldable pub sent_among : List Site → ℕ
sent_among [] = 0
sent_among (x ∷ w) = is_sent x + sent_among w

-- Line k has blocks k and k + 1. "B0 is all zero and not sent. For odd L the block after the last is all zero and not sent."
unfoldable pub has_unsent : ℕ → ℕ → Bool
has_unsent L k = eqb k 0 || ltb L (k + 1)

-- "n, less M where the word has an unsent block"
unfoldable pub reads_of : Params → ℕ → ℕ → ℕ
reads_of s L k = cond (has_unsent L k) (word_length s - s.M) (word_length s)
