-- The bits of a group's system by what code has at hand: the remainders of its words, and the place of Q that the parity list sends to each place of P
-- (`preimages`).
--   remainder_digit x r a    bit a of the r bits of a remainder x, the highest first
--   constant_bit             entry k of the constant c, from the remainders
--   place_constant           the same by its place in P, from P and Q as they would be for Y = 0, Q first
-- Assumes nothing.
use Rattle.std.specs.Prelude.{List, ℕ, ◌+◌, ◌-◌, ◌*◌, ◌/◌, ◌%◌, ◌^◌, get_or}
use Rattle.staircase.specs.Lists.{bit_sum}

abbrev pub remainder_digit : ℕ → ℕ → ℕ → ℕ
remainder_digit x r a = x / 2 ^ (r - 1 - a) % 2

-- Entry k of the stack is row k mod r, column k / r of P: the digit of that column's remainder, plus the digit of a row's remainder that the
-- parity list brings there.
unfoldable pub constant_bit : List ℕ → List ℕ → List ℕ → ℕ → ℕ → ℕ → ℕ
constant_bit columns rows preimages size r k =
    let p : ℕ = get_or preimages (k % r * size + k / r) 0 in
    bit_sum (remainder_digit (get_or columns (k / r) 0) r (k % r)) (remainder_digit (get_or rows (p % size) 0) r (p / size))

abbrev pub place_constant : List ℕ → List ℕ → ℕ → ℕ → ℕ
place_constant bits preimages n q = bit_sum (get_or bits (n + q) 0) (get_or bits (get_or preimages q 0) 0)
