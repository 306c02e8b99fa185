-- Polynomials over GF(2), and words as polynomials. A polynomial is a number, bit i for x^i.
--   a ⊕ b             the sum
--   times_x f d v      x times v modulo a polynomial f of degree d
--   iterate T j v     the map T applied j times
--   poly_at T p v      p as a polynomial in the map T, applied to v
--   p ⊗ q             the product
--   Bits w            every entry of w is 0 or 1
--   horner T s w      the bits of w taken into s by Horner's rule with the map T
--   word_poly w        a word as a polynomial
--   remainder g r w   the remainder of a word by a polynomial g of degree r
--   bits_of n p        the n low bits of a number, the highest first
-- Assumes nothing.
use Rattle.std.specs.Prelude.{List, [], ◌∷◌, ℕ, zero, suc, ◌*◌, ◌/◌, ◌%◌, ◌^◌, ◌<◌, get_or}
use Rattle.std.specs.Int.Bits.{bit_xor}

infixl 60 ◌⊕◌
infixl 70 ◌⊗◌
-- "Sums of bits are modulo 2": coefficient by coefficient, the exclusive or
unfoldable pub ◌⊕◌ : ℕ → ℕ → ℕ
a ⊕ b = bit_xor a b

-- twice v, less f where the degree has come to d
unfoldable pub times_x : ℕ → ℕ → ℕ → ℕ
times_x f d v = v * 2 ⊕ (v * 2 / 2 ^ d % 2) * f

unfoldable pub iterate : (ℕ → ℕ) → ℕ → ℕ → ℕ
iterate T zero v = v
iterate T (suc j) v = T (iterate T j v)

-- the sum of T^k v over the first n bits k of p that are 1
unfoldable pub poly_at_digits : (ℕ → ℕ) → ℕ → ℕ → ℕ → ℕ
poly_at_digits T zero p v = 0
poly_at_digits T (suc n) zero v = 0
poly_at_digits T (suc n) (suc p) v = (suc p % 2) * v ⊕ poly_at_digits T n (suc p / 2) (T v)

-- p has no more than p bits
unfoldable pub poly_at : (ℕ → ℕ) → ℕ → ℕ → ℕ
poly_at T p v = poly_at_digits T p p v

unfoldable pub ◌⊗◌ : ℕ → ℕ → ℕ
p ⊗ q = poly_at (λ v. v * 2) p q

abbrev pub Bits : List ℕ → Type 0
Bits w = (k : ℕ) → get_or w k 0 < 2

-- "Position j of an n-bit word carries x^(n-1-j)": the highest power comes first
unfoldable pub horner : (ℕ → ℕ) → ℕ → List ℕ → ℕ
horner T s [] = s
horner T s (b ∷ w) = horner T (T s ⊕ b) w

unfoldable pub word_poly : List ℕ → ℕ
word_poly w = horner (λ v. v * 2) 0 w

unfoldable pub remainder : ℕ → ℕ → List ℕ → ℕ
remainder g r w = horner (times_x g r) 0 w

unfoldable pub bits_of : ℕ → ℕ → List ℕ
bits_of zero p = []
bits_of (suc n) p = p / 2 ^ n % 2 ∷ bits_of n p
