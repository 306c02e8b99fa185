-- Tables, sums of bits and first places.
--   bit_sum a b       the sum of two bits
--   sum_bits n f      the sum of the bits f 0, .., f (n - 1)
--   tabulate n f     the list f 0, .., f (n - 1)
--   concat n f       the lists f 0, .., f (n - 1), one after the other
--   first_where n f   the first of 0, .., n - 1 that passes a test; n where none does
-- Assumes nothing.
use Rattle.std.specs.Prelude.{Bool, cond, List, [], ◌∷◌, ◌++◌, ℕ, zero, suc, ◌+◌, ◌%◌}

-- "Sums of bits are modulo 2"
abbrev pub bit_sum : ℕ → ℕ → ℕ
bit_sum a b = (a + b) % 2

unfoldable pub sum_bits : ℕ → (ℕ → ℕ) → ℕ
sum_bits zero f = 0
sum_bits (suc n) f = bit_sum (f zero) (sum_bits n (λ k. f (suc k)))

unfoldable pub tabulate {ℓ} : {A : Type ℓ} → ℕ → (ℕ → A) → List A
tabulate zero f = []
tabulate (suc n) f = f zero ∷ tabulate n (λ k. f (suc k))

unfoldable pub concat {ℓ} : {A : Type ℓ} → ℕ → (ℕ → List A) → List A
concat zero f = []
concat (suc n) f = f zero ++ concat n (λ k. f (suc k))

unfoldable pub first_where : ℕ → (ℕ → Bool) → ℕ
first_where zero f = 0
first_where (suc n) f = let rest : ℕ = suc (first_where n (λ k. f (suc k))) in cond (f zero) 0 rest
