-- The bits of a matrix of k rows of w bytes, where a row was made the sum of two rows, byte by byte.
--   bit-lt             a bit is 0 or 1
--   Summed, Added      row `to` was made the sum of the rows x and y; row `from` was added to it
--   summed_bit, added_bit   the same, bit by bit
-- Assumes nothing.
use mathlib.Core.Path.{◌≡◌, refl, sym, ap, ◌∙◌}
use mathlib.Core.Bool.{Bool, true, false, cond}
use mathlib.Core.List.{List}
use Prim.Native.Nat.{ℕ, ◌+◌, ◌*◌, ◌/◌, ◌%◌, ◌<◌}
use native.Mathlib.Omega.{arith}
use lib.Bits.{bit_xor}
use lib.Dec.{eqb}
use lib.ListN.{get_or}
use borrow.Author.Tests.{eqb-true}
use Rattle.staircase.specs.Lists.{bit_sum}
use Rattle.staircase.specs.Square.{digit}
use Rattle.matrix.proofs.Bits.{bit-xor}
use Rattle.matrix.proofs.Bits as bits
use Rattle.matrix_elimination.specs.Steps.{bit_at}

pub bit-lt : (m : List ℕ) (w i j : ℕ) → bit_at m w i j < 2
unfolding bit_at
bit-lt m w i j = bits.bit-lt (get_or m (i * w + j / 8) 0) (j % 8)

abbrev pub Summed : ℕ → ℕ → ℕ → ℕ → ℕ → List ℕ → List ℕ → Type 0
Summed k w to x y old new = (i c : ℕ) → i < k → c < w → get_or new (i * w + c) 0
    ≡ cond (eqb i to) (bit_xor (get_or old (x * w + c) 0) (get_or old (y * w + c) 0)) (get_or old (i * w + c) 0)

abbrev pub Added : ℕ → ℕ → ℕ → ℕ → List ℕ → List ℕ → Type 0
Added k w to from old new = Summed k w to to from old new

pub summed_bit : (k w to x y : ℕ) (old new : List ℕ) → Summed k w to x y old new → (i j : ℕ) → i < k → j < 8 * w
    → bit_at new w i j ≡ cond (eqb i to) (bit_sum (bit_at old w x j) (bit_at old w y j)) (bit_at old w i j)
unfolding bit_at
summed_bit k w to x y old new f i j hi hj = ap (λ (z : ℕ). digit z (j % 8)) (f i (j / 8) hi (omega arith)) ∙ go (eqb i to)
  where
    byte : ℕ → ℕ
    byte r = get_or old (r * w + j / 8) 0

    go : (z : Bool) → digit (cond z (bit_xor (byte x) (byte y)) (byte i)) (j % 8)
        ≡ cond z (bit_sum (digit (byte x) (j % 8)) (digit (byte y) (j % 8))) (digit (byte i) (j % 8))
    go true = bit-xor (byte x) (byte y) (j % 8)
    go false = refl

pub added_bit : (k w to from : ℕ) (old new : List ℕ) → Added k w to from old new → (i j : ℕ) → i < k → j < 8 * w
    → bit_at new w i j ≡ cond (eqb i to) (bit_sum (bit_at old w i j) (bit_at old w from j)) (bit_at old w i j)
added_bit k w to from old new f i j hi hj = summed_bit k w to to from old new f i j hi hj ∙ go (eqb i to) refl
  where
    go : (z : Bool) → eqb i to ≡ z → cond z (bit_sum (bit_at old w to j) (bit_at old w from j)) (bit_at old w i j)
        ≡ cond z (bit_sum (bit_at old w i j) (bit_at old w from j)) (bit_at old w i j)
    go true e = ap (λ (z : ℕ). bit_sum (bit_at old w z j) (bit_at old w from j)) (sym (eqb-true i to e))
    go false e = refl
