-- The ones of a byte by additions of neighbouring bits.
--   neighbours, neighbours_ones   the sums of twos, of fours and of eight bits: the ones of a byte
--   odd_gathered                  the low bit of counts that are joined by or: whether one of them is odd
-- Assumes nothing.
use mathlib.Core.Path.{◌≡◌, refl, ap, ◌∙◌}
use mathlib.Core.Bool.{Bool, ◌||◌}
use Prim.Native.Nat.{ℕ, ◌+◌, ◌-◌, ◌/◌, ◌%◌, ◌^◌, ◌<◌}
use native.Mathlib.Omega.{arith}
use lib.Bits.{bit_and, bit_or, or_mod}
use lib.Count.{ones_in, ones}
use lib.Dec.{eqb}
use Rattle.bch.proofs.Sum.{bit_ind}
use Rattle.staircase.specs.Lists.{tabulate}
use Rattle.matrix.proofs.Block.{agree}

-- ---- the count

abbrev pub pairs : ℕ → ℕ
pairs v = v - bit_and (v / 2 ^ 1) 0x55

abbrev pub fours : ℕ → ℕ
fours v = bit_and (pairs v) 0x33 + bit_and (pairs v / 2 ^ 2) 0x33

unfoldable pub neighbours : ℕ → ℕ
neighbours v = (fours v + fours v / 2 ^ 4) % 16

-- the check computes both tables
pub neighbours_ones : (v : ℕ) → v < 256 → neighbours v ≡ ones v
unfolding neighbours ones ones_in tabulate
neighbours_ones = agree 256 neighbours ones refl

-- ---- whether one is odd

-- `one` tells whether one of the counts before is odd
pub odd_gathered : (all c : ℕ) (one : Bool) → eqb (all % 2) 1 ≡ one → eqb (bit_or all c % 2) 1 ≡ (one || eqb (c % 2) 1)
odd_gathered all c one e =
    ap (λ (z : ℕ). eqb z 1) (or_mod all c 1) ∙ low (all % 2) (c % 2) (omega arith) (omega arith) ∙ ap (λ (z : Bool). z || eqb (c % 2) 1) e
  where
    low : (u v : ℕ) → u < 2 → v < 2 → eqb (bit_or u v) 1 ≡ (eqb u 1 || eqb v 1)
    low u v hu hv =
        bit_ind (λ (u : ℕ). eqb (bit_or u v) 1 ≡ (eqb u 1 || eqb v 1))
        (bit_ind (λ (v : ℕ). eqb (bit_or 0 v) 1 ≡ (eqb 0 1 || eqb v 1)) refl refl v hv)
        (bit_ind (λ (v : ℕ). eqb (bit_or 1 v) 1 ≡ (eqb 1 1 || eqb v 1)) refl refl v hv) u hu
