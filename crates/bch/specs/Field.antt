-- The seven fields GF(2^m), m = 4 to 10: numbers below 2^m, modulo a field polynomial. The sum is `◌⊕◌`.
--   field_poly m       the field polynomial of m
--   power m j         power j of its root
--   power_table m n    the first n powers
--   value_at m i p     the value of the polynomial p at power i of the root
-- Assumes nothing.
use Rattle.std.specs.Prelude.{List, [], ◌∷◌, ℕ, zero, suc, ◌-◌, get_or}
use Rattle.bch.specs.Polynomial.{times_x, iterate, poly_at}

-- "Field polynomials in hexadecimal, bit i for x^i, m = 4 to 10"
unfoldable pub field_poly : ℕ → ℕ
field_poly m = get_or (0x13 ∷ 0x25 ∷ 0x43 ∷ 0x89 ∷ 0x11D ∷ 0x211 ∷ 0x409 ∷ []) (m - 4) 0

-- the root is x itself
unfoldable pub power : ℕ → ℕ → ℕ
power m j = iterate (times_x (field_poly m) m) j 1

-- v and the powers after it: each entry is the one before times x
unfoldable pub powers_from : ℕ → ℕ → ℕ → List ℕ
powers_from m v zero = []
powers_from m v (suc n) = v ∷ powers_from m (times_x (field_poly m) m v) n

-- "the first entry is 1, and each entry is the one before times x in its field"
unfoldable pub power_table : ℕ → ℕ → List ℕ
power_table m n = powers_from m 1 n

unfoldable pub value_at : ℕ → ℕ → ℕ → ℕ
value_at m i p = poly_at (iterate (times_x (field_poly m) m) i) p 1
