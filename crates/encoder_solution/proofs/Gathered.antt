-- A number to which one bit after the other is added.
--   bits-same                      two numbers with the same bits are equal
--   Gathered                       the bits before i are by a rule, the others 0
--   gathered_more                  one bit more
-- Assumes nothing.
use mathlib.Core.Path.{◌≡◌, sym, ap, ap₂, ◌∙◌}
use mathlib.Core.Bool.{Bool, cond}
use Prim.Native.Nat.{ℕ, ◌+◌, ◌/◌, ◌%◌, ◌≤◌, ◌<◌}
use native.Mathlib.Nat.{div-one}
use native.Mathlib.Decide.{ℕ_discrete}
use native.Mathlib.Omega.{arith}
use lib.Arith.{bin_ind}
use lib.Dec.{eqb}
use borrow.Author.Tests.{eq-eqb, ne_eqb}
use Rattle.staircase.specs.Lists.{bit_sum}
use Rattle.staircase.proofs.Matrix.{bit_sum-zero, zero-bit_sum}
use Rattle.matrix.proofs.Bits.{bit, bit-lt, bit_shr}

-- ---- a number by its bits

lowest : (x y : ℕ) → bit x 0 ≡ bit y 0 → x % 2 ≡ y % 2
lowest x y e = ap (λ (z : ℕ). z % 2) (sym (div-one x)) ∙ e ∙ ap (λ (z : ℕ). z % 2) (div-one y)

halves : (x y : ℕ) → ((j : ℕ) → bit x j ≡ bit y j) → (j : ℕ) → bit (x / 2) j ≡ bit (y / 2) j
halves x y same j = bit_shr x 1 j ∙ same (1 + j) ∙ sym (bit_shr y 1 j)

none : (y : ℕ) → ((j : ℕ) → bit y j ≡ bit 0 j) → y ≡ 0
none =
    bin_ind (λ (y : ℕ). ((j : ℕ) → bit y j ≡ bit 0 j) → y ≡ 0) (λ same. omega arith)
    (λ y ih same. omega (arith, ih (halves y 0 same), lowest y 0 (same 0)))

pub bits-same : (x y : ℕ) → ((j : ℕ) → bit x j ≡ bit y j) → x ≡ y
bits-same =
    bin_ind (λ (x : ℕ). (y : ℕ) → ((j : ℕ) → bit x j ≡ bit y j) → x ≡ y) (λ y same. sym (none y (λ j. sym (same j))))
    (λ x ih y same. omega (arith, ih (y / 2) (halves x y same), lowest x y (same 0)))

-- ---- bit after bit

abbrev pub Gathered : (ℕ → ℕ) → ℕ → ℕ → Type 0
Gathered f x i = (j : ℕ) → (j < i → bit x j ≡ f j) × (i ≤ j → bit x j ≡ 0)

pub gathered_more : (f : ℕ → ℕ) (x y i : ℕ) → f i < 2 → Gathered f x i → ((j : ℕ) → bit y j ≡ bit_sum (bit x j) (cond (eqb i j) (f i) 0))
    → Gathered f y (i + 1)
gathered_more f x y i small before added j = go (ℕ_discrete i j)
  where
    go : Dec (i ≡ j) → (j < i + 1 → bit y j ≡ f j) × (i + 1 ≤ j → bit y j ≡ 0)
    go (yes e) = (
      λ l. added j ∙ ap₂ bit_sum ((before j).1 (omega arith)) (ap (λ (z : Bool). cond z (f i) 0) (eq-eqb i j e)) ∙ zero-bit_sum (f i) small ∙ ap f e,
      λ l. absurd (omega arith),
    )
    go (no d) =
        let same : bit y j ≡ bit x j =
        added j ∙ ap (λ (z : Bool). bit_sum (bit x j) (cond z (f i) 0)) (ne_eqb i j d) ∙ bit_sum-zero (bit x j) (bit-lt x j) in
        (λ l. same ∙ (before j).0 (omega arith), λ l. same ∙ (before j).1 (omega arith))
