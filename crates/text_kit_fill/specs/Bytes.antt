-- The bits that characters show.
--   lows      the last bits of bytes
-- Assumes nothing.
use Rattle.std.specs.Prelude.{ℕ, ◌%◌, List, [], ◌∷◌}

-- The last bits of bytes: of the characters `0` and `1` the bits that they show.
unfoldable pub lows : List ℕ → List ℕ
lows [] = []
lows (c ∷ t) = (c % 2) ∷ lows t
