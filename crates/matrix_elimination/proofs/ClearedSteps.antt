-- Filling the table and clearing columns are steps of elimination.
--   left-bit, right-bit                  the bits of the two halves are 0 or 1
--   kept_steps, kept_pivots, kept-none   where the rows below n stay
--   cleared_steps                        where columns are cleared
--   cleared-units                        the columns are then the identity's
--   cleared-none                         where the rows that have no pivot were 0 in the next column, they still are
-- Assumes nothing.
use mathlib.Core.Path.{◌≡◌, refl, sym, ap, ap₂, ◌∙◌}
use mathlib.Core.Bool.{Bool, true, false, cond}
use mathlib.Core.List.{List}
use Prim.Native.Nat.{ℕ, ◌+◌, ◌*◌, ◌≤◌, ◌<◌}
use native.Mathlib.Nat.{mul-zero, zero-mul}
use native.Mathlib.Omega.{arith}
use lib.ListN.{length}
use Rattle.staircase.specs.Lists.{bit_sum, sum_bits}
use Rattle.staircase.specs.System.{row_bytes}
use Rattle.staircase.specs.Square.{BitMatrix, Units, Pivots, from_to, cleared_entry}
use Rattle.staircase.proofs.Matrix.{sum_bits-zero}
use Rattle.staircase.proofs.Steps.{reached-same, rows-cleared, units-cleared}
use Rattle.matrix_elimination.specs.Steps.{row_width, bit_at, left, right, RowSteps, NoPivot}
use Rattle.matrix_elimination.proofs.ClearedEntries.{from-after}
use Rattle.matrix_elimination.proofs.RowBits.{bit-lt}

pub left-bit : (n : ℕ) (m : List ℕ) → BitMatrix (left n m)
left-bit n m i j = bit-lt m (row_width n) i j

pub right-bit : (n : ℕ) (m : List ℕ) → BitMatrix (right n m)
right-bit n m i j = bit-lt m (row_width n) i (8 * row_bytes n + j)

-- ---- the rows below n stay

module _ (n : ℕ) (m m₂ : List ℕ) (same : (i j : ℕ) → i < n → j < 8 * row_width n → bit_at m₂ (row_width n) i j ≡ bit_at m (row_width n) i j) where
  pub kept_steps : length m₂ ≡ length m → RowSteps n m m₂
  kept_steps e = record {
    long = e;
    reached = λ s hs k.
        reached-same n s (left n m) (right n m) (left n m₂) (right n m₂) (λ i j hi hj. sym (same i j hi (omega (arith, hj))))
        (λ i j hi hj. sym (same i (8 * row_bytes n + j) hi (omega (arith, hj)))) k;
    spare = λ z i j hi hn hj. same i (8 * row_bytes n + j) hi (omega (arith, hj)) ∙ z i j hi hn hj;
  }

  pub kept_pivots : (lo h : ℕ) → lo + h ≤ n → Pivots n lo h (left n m) → Pivots n lo h (left n m₂)
  kept_pivots lo h room p = record {
    units = λ i j hi hj. same i j hi (omega (arith, hj, room)) ∙ p.units i j hi hj;
    own = λ i j l hi l₂ hj. same i j (omega (arith, hi, room)) (omega (arith, hj, room)) ∙ p.own i j l hi l₂ hj;
  }

  pub kept-none : (lo k : ℕ) → k < n → NoPivot n lo k (left n m) → NoPivot n lo k (left n m₂)
  kept-none lo k hk none i j l hi l₂ hj = same i j hi (omega (arith, hj, hk)) ∙ none i j l hi l₂ hj

-- ---- the columns lo to lo + h are cleared

module _ (n lo h : ℕ) (m m₂ : List ℕ) (room : lo + h ≤ n) (pivots : Pivots n lo h (left n m))
    (e : (i j : ℕ) → i < n → j < 8 * row_width n
    → bit_at m₂ (row_width n) i j ≡ cleared_entry lo h (bit_at m (row_width n)) (bit_at m (row_width n)) i j) where
  eu : (i j : ℕ) → i < n → j < n → left n m₂ i j ≡ cleared_entry lo h (left n m) (left n m) i j
  eu i j hi hj = e i j hi (omega (arith, hj))

  ev : (i j : ℕ) → i < n → j < 8 * row_bytes n → right n m₂ i j ≡ cleared_entry lo h (left n m) (right n m) i j
  unfolding cleared_entry
  ev i j hi hj = e i (8 * row_bytes n + j) hi (omega (arith, hj))

  -- a column of zeros stays one
  zero-column : (i j : ℕ) → i < n → ((k : ℕ) → k < n → right n m k j ≡ 0) → cleared_entry lo h (left n m) (right n m) i j ≡ 0
  unfolding cleared_entry
  zero-column i j hi z =
      ap₂ (λ (x y : ℕ). cond (from_to lo h i) x (bit_sum x y)) (z i hi)
      (sum_bits-zero h (λ q. left n m i (lo + q) * right n m (lo + q) j)
      (λ q l. ap (λ (x : ℕ). left n m i (lo + q) * x) (z (lo + q) (omega (arith, l, room))) ∙ mul-zero (left n m i (lo + q))))
      ∙ go (from_to lo h i)
    where
      go : (t : Bool) → cond t 0 (bit_sum 0 0) ≡ 0
      go true = refl
      go false = refl

  pub cleared_steps : length m₂ ≡ length m → RowSteps n m m₂
  cleared_steps p = record {
    long = p;
    reached = λ s hs k.
        rows-cleared n s (left n m) (right n m) (left n m₂) (right n m₂) hs (left-bit n m) (right-bit n m) lo h room pivots.units pivots.own eu
        (λ i j hi hj. ev i j hi (omega (arith, hj))) k;
    spare = λ z i j hi hn hj. ev i j hi hj ∙ zero-column i j hi (λ k hk. z k j hk hn hj);
  }

  pub cleared-units : Units n (lo + h) (left n m₂)
  cleared-units =
      units-cleared n (left n m) (left n m) (right n m) (left n m₂) (right n m₂) (left-bit n m) (left-bit n m) (right-bit n m) lo h room
      pivots.units pivots.own eu (λ i j hi hj. ev i j hi (omega (arith, hj)))

  -- the rows from lo + h on take nothing
  pub cleared-none : NoPivot n lo (lo + h) (left n m) → lo + h < n → (i : ℕ) → lo + h ≤ i → i < n → left n m₂ i (lo + h) ≡ 0
  unfolding cleared_entry
  cleared-none none l i low hi =
      eu i (lo + h) hi l
      ∙ ap (λ (t : Bool). cond t (left n m i (lo + h)) (bit_sum (left n m i (lo + h)) (taken i))) (from-after lo h i low)
      ∙ ap₂ bit_sum (none i (lo + h) low hi (omega arith) (omega arith))
      (sum_bits-zero h (λ q. left n m i (lo + q) * left n m (lo + q) (lo + h))
      (λ q d. ap (λ (x : ℕ). x * left n m (lo + q) (lo + h)) (none i (lo + q) low hi (omega arith) (omega arith))
      ∙ zero-mul (left n m (lo + q) (lo + h))))
    where
      taken : ℕ → ℕ
      taken k = sum_bits h (λ q. left n m k (lo + q) * left n m (lo + q) (lo + h))
