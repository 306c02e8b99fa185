-- Document 01, "System and kit": the system A y + c of a group, the packed inverse W, products, and the redundancy that W gives a frame.
--   Contents                       a bit for each place of a block, of Y or of P, row by row
--   stack, unstack                 from Y's row by row order to its column by column order, and back
--   column_parity, row_parity        P by the column words, Q by the row words
--   residual                       A y + c
--   system_entry, constant_entry     the entries of A and of c
--   row_bytes, inverse_entry         the packed inverse
--   apply                          a square matrix of bits at a vector
--   product, identity              products of square matrices of bits
--   self_entry, group_bits           Y = W c, and the group
--   group_redundancy, redundancy    of a frame's information
-- Assumes nothing.
use Rattle.std.specs.Prelude.{cond, List, ◌++◌, ℕ, ◌+◌, ◌*◌, ◌/◌, ◌%◌, ◌^◌, eqb, get_or}
use Rattle.bch.specs.Code.{parity}
use Rattle.staircase.specs.Lists.{bit_sum, sum_bits, tabulate, concat, first_where}
use Rattle.staircase.specs.Design.{Params, Interleavers, column_generator, order}
use Rattle.staircase.specs.Word.{row_info, column_info}
use Rattle.staircase.specs.Frame.{groups, block_contents}

abbrev pub Contents : Type 0
Contents = ℕ → ℕ

abbrev pub zeros : Contents
zeros k = 0

-- 1 at one place
abbrev pub unit : ℕ → Contents
unit j k = cond (eqb k j) 1 0

-- "Stack Y column by column to y": entry b × r + a of the stack is row a, column b, which is place a × M + b of Y
abbrev pub unstack : Params → ℕ → ℕ
unstack s e = e % s.r * s.M + e / s.r

abbrev pub stack : Params → ℕ → ℕ
stack s q = q % s.M * s.r + q / s.M

-- the place that a list of n entries sends to place q
unfoldable pub preimage : List ℕ → ℕ → ℕ → ℕ
preimage l n q = first_where n (λ p. eqb (get_or l p 0) q)

-- "the bit at row a, column b of P that the column words give", by its place in P
unfoldable pub column_parity : Params → Contents → Contents → Contents → Contents
column_parity s odd even y q = get_or (parity (column_generator s) s.r (column_info s odd even y (q % s.M))) (q / s.M) 0

-- "the Q that the row words give", by the place in Q
unfoldable pub row_parity : Params → Interleavers → Contents → Contents → Contents → Contents
row_parity s l before odd y p = get_or (parity s.g s.r (row_info s l before odd y (p % s.M))) (p / s.M) 0

-- "Entry b × r + a of A y + c is the bit at row a, column b of P that the column words give, plus the bit that the parity list brings there from
-- the Q that the row words give"
unfoldable pub residual : Params → Interleavers → Contents → Contents → Contents → Contents → ℕ → ℕ
residual s l before odd even y e =
    bit_sum (column_parity s odd even y (unstack s e)) (row_parity s l before odd y (preimage l.parity (order s) (unstack s e)))

-- "A y is this sum for zero blocks": column j is the sum for the Y whose stack is 1 at j alone
unfoldable pub system_entry : Params → Interleavers → ℕ → ℕ → ℕ
system_entry s l e j = residual s l zeros zeros zeros (unit (unstack s j)) e

-- "c for zero Y"
unfoldable pub constant_entry : Params → Interleavers → Contents → Contents → Contents → ℕ → ℕ
constant_entry s l before odd even e = residual s l before odd even zeros e

-- "rows of (M × r)/8 bytes rounded up"
abbrev pub row_bytes : ℕ → ℕ
row_bytes n = (n + 7) / 8

-- "column j is bit j mod 8 of byte j/8 rounded down"
unfoldable pub inverse_entry : List ℕ → ℕ → ℕ → ℕ → ℕ
inverse_entry w n i j = get_or w (i * row_bytes n + j / 8) 0 / 2 ^ (j % 8) % 2

-- an n × n matrix at a vector: entry i is 1 exactly when row i and the vector share an odd number of ones
abbrev pub apply : ℕ → (ℕ → ℕ → ℕ) → Contents → Contents
apply n a v i = sum_bits n (λ j. a i j * v j)

-- "An entry of a product is 1 exactly when a row and a column share an odd number of ones"
unfoldable pub product : ℕ → (ℕ → ℕ → ℕ) → (ℕ → ℕ → ℕ) → ℕ → ℕ → ℕ
product n a b i j = sum_bits n (λ k. a i k * b k j)

abbrev pub identity : ℕ → ℕ → ℕ
identity i j = cond (eqb i j) 1 0

-- the paper's redundancy: y = W c, as Y by places
unfoldable pub self_entry : Params → Interleavers → List ℕ → Contents → Contents → Contents → Contents
self_entry s l w before odd even q =
    sum_bits (order s) (λ e. inverse_entry w (order s) (stack s q) e * constant_entry s l before odd even e)

-- "Group i is Y (r × M), then P (r × M)", P from the column words
unfoldable pub group_bits : Params → Interleavers → List ℕ → Contents → Contents → Contents → List ℕ
group_bits s l w before odd even =
    tabulate (order s) (self_entry s l w before odd even) ++ tabulate (order s) (column_parity s odd even (self_entry s l w before odd even))

unfoldable pub group_redundancy : Params → Interleavers → List ℕ → ℕ → List ℕ → ℕ → List ℕ
group_redundancy s l w L info i = group_bits s l w (block_contents s L info (2 * i)) (block_contents s L info (2 * i + 1)) (block_contents s L info (2 * i + 2))

-- "in order of blocks or groups"
unfoldable pub redundancy : Params → Interleavers → List ℕ → ℕ → List ℕ → List ℕ
redundancy s l w L info = concat (groups L) (group_redundancy s l w L info)
