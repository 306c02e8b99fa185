-- A group's redundancy by what code has at hand: the tables of powers of x that the positions of a row word carry (`positions`) and those
-- of a column word (`columns`; the first M entries for the first block of a word, M for the second, r for X or Y), the place of Q that the parity list sends to each place of P (`preimages`), and the packed inverse.
--   y_bit, p_bit                a bit of Y and of P, by the blocks
--   group_of                   the group: Y, then P
--   row_digit, column_digit     a bit of Q and of P as they would be for Y = 0
--   start_of                   both, Q first
--   solved_of                  the group made of them
--   finished_of                the same from the words of the solutions, of which bit g is the group's
--   WordTables, GroupTables   what is asked of the sizes and of the slices that all groups share
-- Assumes nothing.
use Rattle.std.specs.Prelude.{◌≡◌, List, ◌++◌, ℕ, ◌+◌, ◌*◌, ◌/◌, ◌%◌, ◌^◌, ◌≤◌, ◌<◌, length, get_or}
use Rattle.bch.specs.Polynomial.{◌⊕◌}
use Rattle.bch.specs.Powers.{xor_sum}
use Rattle.staircase.specs.Lists.{bit_sum, sum_bits, tabulate}
use Rattle.staircase.specs.Design.{most-order}
use Rattle.staircase.specs.System.{Contents, row_bytes, inverse_entry}
use Rattle.words_blocks.specs.Blocks.{part_sum, column_sum, row_sum}
use Rattle.encoder_solution.specs.Bits.{remainder_digit, constant_bit, place_constant}

-- y = W c
unfoldable pub y_bit : List ℕ → List ℕ → List ℕ → List ℕ → ℕ → ℕ → Contents → Contents → Contents → Contents
y_bit columns positions preimages inverse size r before odd even q =
    sum_bits (size * r) (λ k. inverse_entry inverse (size * r) (q % size * r + q / size) k
    * constant_bit (tabulate size (column_sum columns size odd even)) (tabulate size (row_sum positions size before odd)) preimages size r k)

-- the parity of column q mod M
unfoldable pub p_bit : List ℕ → ℕ → ℕ → Contents → Contents → Contents → Contents
p_bit columns size r odd even y q =
    remainder_digit (column_sum columns size odd even (q % size) ⊕ part_sum columns (2 * size) r (λ b. y (b * size + q % size))) r (q / size)

unfoldable pub group_of : List ℕ → List ℕ → List ℕ → List ℕ → ℕ → ℕ → Contents → Contents → Contents → List ℕ
group_of columns positions preimages inverse size r before odd even =
    let y : Contents = y_bit columns positions preimages inverse size r before odd even in
    tabulate (size * r) y ++ tabulate (size * r) (p_bit columns size r odd even y)

-- ---- steps of the code

abbrev pub row_digit : List ℕ → ℕ → ℕ → Contents → Contents → Contents
row_digit positions size r before odd p = remainder_digit (row_sum positions size before odd (p % size)) r (p / size)

abbrev pub column_digit : List ℕ → ℕ → ℕ → Contents → Contents → Contents
column_digit columns size r odd even q = remainder_digit (column_sum columns size odd even (q % size)) r (q / size)

unfoldable pub start_of : List ℕ → List ℕ → ℕ → ℕ → Contents → Contents → Contents → List ℕ
start_of columns positions size r before odd even =
    tabulate (size * r) (row_digit positions size r before odd) ++ tabulate (size * r) (column_digit columns size r odd even)

-- Y is the inverse times the constant; P is what it was, plus the digits of what Y adds to the remainders
unfoldable pub solved_of : List ℕ → List ℕ → List ℕ → ℕ → ℕ → List ℕ → List ℕ
solved_of columns preimages inverse size r start =
    let n : ℕ = size * r in
    let y : Contents = λ q. sum_bits n (λ k. inverse_entry inverse n (q % size * r + q / size) k * place_constant start preimages n (k % r * size + k / r)) in
    tabulate n y ++ tabulate n (λ q. bit_sum (get_or start (n + q) 0) (remainder_digit (part_sum columns (2 * size) r (λ b. y (b * size + q % size))) r (q / size)))

unfoldable pub finished_of : List ℕ → ℕ → List ℕ → ℕ → ℕ → List ℕ → List ℕ
finished_of words g part size r start =
    let n : ℕ = size * r in
    let y : Contents = λ q. get_or words q 0 / 2 ^ g % 2 in
    tabulate n y ++ tabulate n (λ q. bit_sum (get_or start (n + q) 0) (remainder_digit (xor_sum r (λ b. y (b * size + q % size) * get_or part b 0)) r (q / size)))

pub record WordTables (size r : ℕ) (positions : List ℕ) : Type 0 where
  pub some-columns : 0 < size
  pub few-columns : size ≤ 512
  pub some-rows : 0 < r
  pub few-rows : r ≤ 32
  pub small : size * r ≤ most-order
  pub powers : length positions ≡ 2 * size + 2 * r

pub record GroupTables (size r : ℕ) (columns preimages inverse : List ℕ) : Type 0 where
  pub words : WordTables size r columns
  pub places : length preimages ≡ size * r
  pub within : (q : ℕ) → q < size * r → get_or preimages q 0 < size * r
  pub packed : length inverse ≡ size * r * row_bytes (size * r)
