-- Square matrices of bits: inverses, and columns that are sums of earlier ones, both by search over the vectors of bits. A vector of n bits is a number
-- below 2^n, entry k its digit k.
--   BitMatrix a         the entries of a are bits
--   Inverts n a w       the product of the n × n matrices a and w is the identity
--   EitherOrder         A W is the identity exactly when W A is
--   digit, number       bit k of a number, and the number of n bits
--   sends_to n m a v x   the first m columns of a, of n rows, at the digits of x, are v
--   dependent n a j     column j is a sum of earlier columns
--   inverse_matrix n a   the inverse, where there is one
--   packed_matrix n w    a matrix, packed row by row
--   Reached, Units, Pivots   the state of elimination
--   cleared_entry        an entry after columns are cleared
-- Assumes nothing.
use Rattle.std.specs.Prelude.{◌≡◌, Bool, false, not, cond, ◌↔◌, List, ℕ, zero, suc, ◌+◌, ◌*◌, ◌/◌, ◌%◌, ◌^◌, ◌≤◌, ◌<◌, eqb, ltb}
use Rattle.staircase.specs.Lists.{bit_sum, sum_bits, tabulate, concat, first_where}
use Rattle.staircase.specs.System.{Contents, product, identity, apply, row_bytes}

abbrev pub BitMatrix : (ℕ → ℕ → ℕ) → Type 0
BitMatrix a = (i j : ℕ) → a i j < 2

abbrev pub Inverts : ℕ → (ℕ → ℕ → ℕ) → (ℕ → ℕ → ℕ) → Type 0
Inverts n a w = (i j : ℕ) → i < n → j < n → product n a w i j ≡ identity i j

-- "for square matrices over bits A W is the identity exactly when W A is"
abbrev pub EitherOrder : Type 0
EitherOrder = (n : ℕ) (a w : ℕ → ℕ → ℕ) → BitMatrix a → BitMatrix w → Inverts n a w ↔ Inverts n w a

-- ---- vectors of bits as numbers

abbrev pub digit : ℕ → ℕ → ℕ
digit x k = x / 2 ^ k % 2

-- the number with digits v 0, .., v (n - 1)
unfoldable pub number : ℕ → Contents → ℕ
number zero v = 0
number (suc n) v = v zero + 2 * number n (λ k. v (suc k))

-- ---- columns that are sums of earlier ones, and the inverse

-- row i of the first m columns of a, at the digits of x, is not v's
unfoldable pub misses : ℕ → (ℕ → ℕ → ℕ) → Contents → ℕ → ℕ → Bool
misses m a v x i = not (eqb (sum_bits m (λ k. a i k * digit x k)) (v i))

-- none of n rows misses
unfoldable pub sends_to : ℕ → ℕ → (ℕ → ℕ → ℕ) → Contents → ℕ → Bool
sends_to n m a v x = not (ltb (first_where n (misses m a v x)) n)

-- "a sum of earlier columns (column 0 if it is zero)": of none, where the column is zero
unfoldable pub dependent : ℕ → (ℕ → ℕ → ℕ) → ℕ → Bool
dependent n a j = ltb (first_where (2 ^ j) (sends_to n j a (λ i. a i j))) (2 ^ j)

-- column j of the inverse is the vector that a sends to column j of the identity
unfoldable pub inverse_matrix : ℕ → (ℕ → ℕ → ℕ) → ℕ → ℕ → ℕ
inverse_matrix n a i j = digit (first_where (2 ^ n) (sends_to n n a (λ k. identity k j))) i

-- ---- packed

-- byte b of a row of n entries: "column j is bit j mod 8 of byte j/8 rounded down", spare bits 0
unfoldable pub packed_byte : ℕ → Contents → ℕ → ℕ
packed_byte n f b = number 8 (λ k. cond (ltb (8 * b + k) n) (f (8 * b + k)) 0)

-- "rows of (M × r)/8 bytes rounded up"
unfoldable pub packed_matrix : ℕ → (ℕ → ℕ → ℕ) → List ℕ
packed_matrix n w = concat n (λ i. tabulate (row_bytes n) (packed_byte n (w i)))

-- ---- elimination: u is what has become of the matrix a, and v of the identity

-- u is v a, and sends no more vectors to 0 than a does
pub record Reached (n : ℕ) (a u v : ℕ → ℕ → ℕ) : Type 0 where
  pub rows : (i j : ℕ) → i < n → j < n → u i j ≡ product n v a i j
  pub kernel : (x : Contents) → ((k : ℕ) → x k < 2) → ((i : ℕ) → i < n → apply n u x i ≡ 0) → (i : ℕ) → i < n → apply n a x i ≡ 0

-- the first k columns are the identity's: "a system with one column fewer" is left with each
abbrev pub Units : ℕ → ℕ → (ℕ → ℕ → ℕ) → Type 0
Units n k u = (i j : ℕ) → i < n → j < k → u i j ≡ identity i j

-- the first lo columns are the identity's, and the p columns after them in the p rows after the first lo
pub record Pivots (n lo p : ℕ) (u : ℕ → ℕ → ℕ) : Type 0 where
  pub units : Units n lo u
  pub own : (i j : ℕ) → lo ≤ i → i < lo + p → lo ≤ j → j < lo + p → u i j ≡ identity i j

-- one of the h places from lo on
unfoldable pub from_to : ℕ → ℕ → ℕ → Bool
from_to lo h q = cond (ltb q lo) false (ltb q (lo + h))

-- an entry of m after each row but the h from lo on has taken the sum of those of them at which it has ones in u
unfoldable pub cleared_entry : ℕ → ℕ → (ℕ → ℕ → ℕ) → (ℕ → ℕ → ℕ) → ℕ → ℕ → ℕ
cleared_entry lo h u m i j = cond (from_to lo h i) (m i j) (bit_sum (m i j) (sum_bits h (λ q. u i (lo + q) * m (lo + q) j)))
