-- Steps of the product W c for up to 64 groups: words, of which bit g belongs to group g, and their sums by exclusive or.
--   row_entry m w e k       bit k of row e of a packed matrix of w bytes a row
--   row_product m w c e n   the sum of those of the first n words at which row e has ones
--   solution_word           word q of the solutions: the inverse times the constants, both by their places in a matrix of r rows
-- Assumes nothing.
use Rattle.std.specs.Prelude.{List, ℕ, ◌+◌, ◌*◌, ◌/◌, ◌%◌, ◌^◌, get_or}
use Rattle.bch.specs.Powers.{xor_sum}
use Rattle.staircase.specs.System.{inverse_entry}

abbrev pub row_entry : List ℕ → ℕ → ℕ → ℕ → ℕ
row_entry m w e k = get_or m (e * w + k / 8) 0 / 2 ^ (k % 8) % 2

unfoldable pub row_product : List ℕ → ℕ → (ℕ → ℕ) → ℕ → ℕ → ℕ
row_product m w c e n = xor_sum n (λ k. row_entry m w e k * c k)

-- Word q of both is for place q of Y, and of P: row q / M, column q mod M. It is entry q mod M × r + q / M of the stack.
unfoldable pub solution_word : List ℕ → List ℕ → ℕ → ℕ → ℕ → ℕ
solution_word inverse words size r q =
    xor_sum (size * r) (λ k. inverse_entry inverse (size * r) (q % size * r + q / size) k * get_or words (k % r * size + k / r) 0)
