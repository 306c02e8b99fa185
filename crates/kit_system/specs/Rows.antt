-- Packed rows of the system A, by what code has at hand: the r powers of x that the bits of Y carry in a column word (`columns`) and those that the bits of X
-- carry in a row word (`part`), the entries of the self list, and the place of Q that the parity list sends to a row.
--   PartOf s part            `part` holds the powers of x that the bits of X carry; for `column_code s`, those that the bits of Y carry
--   stack_of, unstack_of       the place in the stack of a place of Y or P, and back
--   power_digit part b a           digit a of power b, the highest first: what bit b of X or Y adds to bit a of the parity
--   row_term, row_entry        what two digits of a power add to an entry of a row of A, and the entry
-- Assumes nothing.
use Rattle.std.specs.Prelude.{◌≡◌, cond, List, ℕ, ◌+◌, ◌-◌, ◌*◌, ◌/◌, ◌%◌, ◌^◌, ◌<◌, eqb, length, get_or}
use Rattle.bch.specs.Powers.{power_mod}
use Rattle.staircase.specs.Lists.{bit_sum, sum_bits}
use Rattle.staircase.specs.Design.{Params}

pub record PartOf (s : Params) (part : List ℕ) : Type 0 where
  pub long : length part ≡ s.r
  pub powers : (b : ℕ) → b < s.r → get_or part b 0 ≡ power_mod s.g s.r (2 * s.r - 1 - b)

-- `stack` and `unstack` of staircase/specs/System.antt, by the two sizes
abbrev pub stack_of : ℕ → ℕ → ℕ → ℕ
stack_of size r q = q % size * r + q / size

abbrev pub unstack_of : ℕ → ℕ → ℕ → ℕ
unstack_of size r e = e % r * size + e / r

abbrev pub power_digit : List ℕ → ℕ → ℕ → ℕ
power_digit part b a = get_or part b 0 / 2 ^ (length part - 1 - a) % 2

-- a digit of either power b, at entry k: that of the column word is in the run of r entries that holds entry e, that of the row word where the self list sends bit b of the word of
-- place p
abbrev pub row_term : (ℕ → ℕ → ℕ) → (ℕ → ℕ → ℕ) → ℕ → List ℕ → ℕ → ℕ → ℕ → ℕ → ℕ → ℕ
row_term columns digits r own size p e k b =
    bit_sum (cond (eqb (e / r * r + b) k) (columns b (e % r)) 0)
    (cond (eqb (stack_of size r (get_or own (b * size + p % size) 0)) k) (digits b (p / size)) 0)

-- entry k of row e of A, for the entries of the self list and the place p of Q that the parity list sends to entry e
unfoldable pub row_entry : List ℕ → List ℕ → List ℕ → ℕ → ℕ → ℕ → ℕ → ℕ
row_entry columns part own size p e k = sum_bits (length part) (row_term (power_digit columns) (power_digit part) (length part) own size p e k)
