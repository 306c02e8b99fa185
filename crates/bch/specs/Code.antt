-- The BCH codes: minimal polynomials, generators, codewords, parity and distance.
--   minimal_poly m i    the minimal polynomial of power i of the root
--   generator m t      the generator of the code that corrects t errors
--   is_codeword g r w   the test whether the generator g, of degree r, divides the word w
--   parity g r u       the r bits that make a codeword of the information u
--   distance v w       the number of positions at which two words differ
-- Assumes nothing.
use Rattle.std.specs.Prelude.{Bool, true, false, cond, List, [], ◌∷◌, ◌++◌, ℕ, zero, suc, ◌+◌, ◌*◌, ◌^◌, eqb, replicate}
use Rattle.bch.specs.Polynomial.{◌⊗◌, remainder, bits_of}
use Rattle.bch.specs.Field.{value_at}

-- the first of a, a + 1, .., a + n - 1 that passes a test; a + n where none does
unfoldable pub least_from : (ℕ → Bool) → ℕ → ℕ → ℕ
least_from P zero a = a
least_from P (suc n) a = elim (P a) [ true ↦ a | false ↦ least_from P n (suc a) ]

-- the least polynomial above 1 that is 0 at power i of the root
unfoldable pub minimal_poly : ℕ → ℕ → ℕ
minimal_poly m i = least_from (λ p. eqb (value_at m i p) 0) (2 ^ (m + 1)) 2

-- "the product of the minimal polynomials of the odd powers 1, 3, .., 2t-1 of the root"
unfoldable pub generator : ℕ → ℕ → ℕ
generator m zero = 1
generator m (suc t) = generator m t ⊗ minimal_poly m (2 * t + 1)

-- "A codeword is a word that the generator divides": its remainder is 0
unfoldable pub is_codeword : ℕ → ℕ → List ℕ → Bool
is_codeword g r w = eqb (remainder g r w) 0

-- "the last r the remainder of information × x^r by the generator"
unfoldable pub parity : ℕ → ℕ → List ℕ → List ℕ
parity g r u = bits_of r (remainder g r (u ++ replicate r 0))

-- 1 where two bits differ, 0 where they are equal
unfoldable pub unlike : ℕ → ℕ → ℕ
unlike a b = cond (eqb a b) 0 1

-- as far as both words go
unfoldable pub distance : List ℕ → List ℕ → ℕ
distance [] w = 0
distance (a ∷ v) [] = 0
distance (a ∷ v) (b ∷ w) = unlike a b + distance v w
