-- Bits that are read through a list.
--   Sends list n       a list of n entries, of two bytes each, that are below n
--   listed_bit          the bit to which a list sends a place
--   listed_byte         the byte of the bits to which it sends n places, w apart from place p on, the first lowest
-- Assumes nothing.
use Rattle.std.specs.Prelude.{◌≡◌, List, ℕ, zero, suc, ◌+◌, ◌*◌, ◌<◌, length, get_or}
use Rattle.staircase.specs.Rules.{entries}

abbrev pub Sends : List ℕ → ℕ → Type 0
Sends list n = (length list ≡ 2 * n) × ((p : ℕ) → p < n → get_or (entries n list) p 0 < n)

unfoldable pub listed_bit : List ℕ → List ℕ → ℕ → ℕ
listed_bit list bits p = get_or bits (get_or (entries (length bits) list) p 0) 0

unfoldable pub listed_byte : List ℕ → List ℕ → ℕ → ℕ → ℕ → ℕ
listed_byte list bits p w zero = 0
listed_byte list bits p w (suc n) = 2 * listed_byte list bits (p + w) w n + listed_bit list bits p
