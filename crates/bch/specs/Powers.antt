-- Remainders by tables: the powers of x modulo a polynomial, and sums of many.
--   power_mod g r e   x^e modulo g, of degree r
--   xor_sum n f       the sum of f 0, .., f (n - 1)
--   PositionPowers   a table of the power that each position of a word carries
-- Assumes nothing.
use Rattle.std.specs.Prelude.{◌≡◌, List, ℕ, zero, suc, ◌-◌, ◌<◌, length, get_or}
use Rattle.bch.specs.Polynomial.{◌⊕◌, times_x, iterate}

unfoldable pub power_mod : ℕ → ℕ → ℕ → ℕ
power_mod g r e = iterate (times_x g r) e 1

-- the last term last, as a loop adds it
unfoldable pub xor_sum : ℕ → (ℕ → ℕ) → ℕ
xor_sum zero f = 0
xor_sum (suc n) f = xor_sum n f ⊕ f n

-- "Position j of an n-bit word carries x^(n-1-j)": entry j of a table of n entries
abbrev pub PositionPowers : ℕ → ℕ → List ℕ → Type 0
PositionPowers g r t = (j : ℕ) → j < length t → get_or t j 0 ≡ power_mod g r (length t - 1 - j)
