-- The stack, and P and Q by the digits of remainders.
--   Place, place       the row and the column of a place of a matrix, and its place in the transposed one
--   stack-entry        those of an entry of the stack
--   digit_row          a row of P by the digits of the words' remainders
--   parity-binary      they are bits
-- Assumes nothing.
use mathlib.Core.Path.{◌≡◌, sym, ap, ap₂, ◌∙◌, subst⁻¹}
use mathlib.Core.List.{List}
use Prim.Native.Nat.{ℕ, ◌+◌, ◌-◌, ◌*◌, ◌/◌, ◌%◌, ◌^◌, ◌<◌}
use native.Mathlib.Nat.{mul_comm, mod-lt, div-lt_iff_lt-mul}
use lib.Arith.{digits_lt, digits_div, digits_mod}
use lib.ListN.{length, get_or}
use Rattle.bch.specs.Polynomial.{Bits}
use Rattle.bch.proofs.Sum.{mod2_bit}
use Rattle.staircase.specs.Lists.{tabulate}
use Rattle.staircase.proofs.Tabulate.{tabulate-bits, tabulate-same}
use Rattle.encoder_solution.specs.Bits.{remainder_digit}

-- place p of a matrix of n columns and m rows, and where it lies in the transposed one
pub record Place (n m p : ℕ) : Type 0 where
  pub quotient : p / n < m
  pub rest : p % n < n
  pub turned : p % n * m + p / n < n * m

pub place : (n m p : ℕ) → 0 < n → p < n * m → Place n m p
place n m p z h =
    let b : p / n < m = (div-lt_iff_lt-mul z).1 (rw (mul_comm m n) h) in
    let c : p % n < n = mod-lt p z in
    record { quotient = b; rest = c; turned = digits_lt c b }

-- entry k of the stack is place k of a matrix of r columns
pub stack-entry : (size r k : ℕ) → 0 < r → k < size * r → Place r size k
stack-entry size r k pos h = place r size k pos (rw (mul_comm r size) h)

pub digit_row : (columns ys : List ℕ) (size r a : ℕ) → length columns ≡ size → ys ≡ tabulate (length columns) (λ b. remainder_digit (get_or columns b 0) r a)
    → ys ≡ tabulate size (λ b. remainder_digit (get_or columns ((a * size + b) % size) 0) r ((a * size + b) / size))
digit_row columns ys size r a wide e =
    e ∙ ap (λ (n : ℕ). tabulate n (λ b. remainder_digit (get_or columns b 0) r a)) wide
    ∙ tabulate-same size (λ b. remainder_digit (get_or columns b 0) r a) (λ b. remainder_digit (get_or columns ((a * size + b) % size) 0) r ((a * size + b) / size))
    (λ b l. sym (ap₂ (λ (x y : ℕ). remainder_digit (get_or columns x 0) r y) (digits_mod a l) (digits_div a l)))

pub parity-binary : (rows q : List ℕ) (size r : ℕ) → q ≡ tabulate (size * r) (λ p. remainder_digit (get_or rows (p % size) 0) r (p / size)) → Bits q
parity-binary rows q size r by_rows =
    subst⁻¹ Bits by_rows
    (tabulate-bits (size * r) (λ p. remainder_digit (get_or rows (p % size) 0) r (p / size)) (λ p. mod2_bit (get_or rows (p % size) 0 / 2 ^ (r - 1 - p / size))))
