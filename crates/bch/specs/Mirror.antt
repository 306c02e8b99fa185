-- Document 02, U14: the code "mirrored by the reversed generator polynomial".
--   reversed n p    the n low bits of p in the other order
--   mirror r g      the reversed polynomial of a polynomial g of degree r
--   backwards w     a word read backwards
-- Assumes nothing.
use Rattle.std.specs.Prelude.{List, [], ◌∷◌, ◌++◌, ℕ, zero, suc, ◌+◌, ◌*◌, ◌/◌, ◌%◌, ◌^◌}

unfoldable pub reversed : ℕ → ℕ → ℕ
reversed zero p = 0
reversed (suc n) p = p % 2 * 2 ^ n + reversed n (p / 2)

-- "f(x) = x^deg(g(x)) g(x^-1)": degree r is r + 1 bits
unfoldable pub mirror : ℕ → ℕ → ℕ
mirror r g = reversed (suc r) g

-- a word read backwards
unfoldable pub backwards {ℓ} : {A : Type ℓ} → List A → List A
backwards [] = []
backwards (b ∷ w) = backwards w ++ (b ∷ [])
