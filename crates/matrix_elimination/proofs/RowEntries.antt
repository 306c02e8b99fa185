-- Additions and exchanges of rows below n, among n + 256: they are steps, since a row's two halves and its spare columns are worked alike.
--   added_row, added_steps           a row was added to another
--   exchanged-row, exchanged_steps   two rows were exchanged
-- Assumes nothing.
use mathlib.Core.Path.{◌≡◌, ap₂, ◌∙◌, subst}
use mathlib.Core.Logic.{◌≢◌}
use mathlib.Core.Bool.{Bool, true, false, cond}
use mathlib.Core.List.{List}
use Prim.Native.Nat.{ℕ, ◌+◌, ◌*◌, ◌<◌}
use native.Mathlib.Omega.{arith}
use lib.Dec.{eqb}
use lib.ListN.{length}
use Rattle.staircase.specs.Lists.{bit_sum}
use Rattle.staircase.specs.System.{row_bytes}
use Rattle.staircase.proofs.Steps.{row_added, rows_exchanged}
use Rattle.matrix_elimination.specs.Steps.{row_width, bit_at, left, right, RowSteps}
use Rattle.matrix_elimination.proofs.Exchange.{exchanged_row, exchanged_row_below, exchanged_row_back, Exchanged, exchanged_bit}
use Rattle.matrix_elimination.proofs.RowBits.{bit-lt, Added, added_bit}

-- ---- a row was added to another

module _ (n w to from : ℕ) (bytes : w ≡ row_width n) (old new : List ℕ) (f : Added (n + 256) w to from old new) where
  pub added_row : (i j : ℕ) → i < n → j < 8 * row_width n → bit_at new (row_width n) i j
      ≡ cond (eqb i to) (bit_sum (bit_at old (row_width n) i j) (bit_at old (row_width n) from j)) (bit_at old (row_width n) i j)
  added_row i j hi hj =
      added_bit (n + 256) (row_width n) to from old new (subst (λ (z : ℕ). Added (n + 256) z to from old new) bytes f) i j (omega (arith, hi)) hj

  pub added_steps : to < n → from < n → to ≢ from → length new ≡ length old → RowSteps n old new
  added_steps ht hf d e = record {
    long = e;
    reached = λ s hs.
        row_added n s (left n old) (right n old) (left n new) (right n new) hs (bit-lt old (row_width n))
        (λ i j. bit-lt old (row_width n) i (8 * row_bytes n + j)) to from ht hf d
        (λ i j hi hj. added_row i j hi (omega arith)) (λ i j hi hj. added_row i (8 * row_bytes n + j) hi (omega arith));
    spare = λ z i j hi lo hj. added_row i (8 * row_bytes n + j) hi (omega arith) ∙ none (eqb i to) (z i j hi lo hj) (z from j hf lo hj);
  }
    where
      none : {x y : ℕ} (z : Bool) → x ≡ 0 → y ≡ 0 → cond z (bit_sum x y) x ≡ 0
      none true e f = ap₂ bit_sum e f
      none false e f = e

-- ---- two rows were exchanged

module _ (n w x y : ℕ) (bytes : w ≡ row_width n) (old new : List ℕ) (f : Exchanged (n + 256) w x y old new) where
  pub exchanged-row : (i j : ℕ) → i < n → j < 8 * row_width n → bit_at new (row_width n) i j ≡ bit_at old (row_width n) (exchanged_row x y i) j
  exchanged-row i j hi hj =
      exchanged_bit (n + 256) (row_width n) x y old new (subst (λ (z : ℕ). Exchanged (n + 256) z x y old new) bytes f) i j (omega (arith, hi)) hj

  pub exchanged_steps : x < n → y < n → x ≢ y → length new ≡ length old → RowSteps n old new
  exchanged_steps hx hy d e = record {
    long = e;
    reached = λ s hs.
        rows_exchanged n s (left n old) (right n old) (left n new) (right n new) hs (bit-lt old (row_width n))
        (λ i j. bit-lt old (row_width n) i (8 * row_bytes n + j)) (exchanged_row x y) (exchanged_row_below x y n hx hy)
        (λ i hi. exchanged_row_back x y d i)
        (λ i j hi hj. exchanged-row i j hi (omega arith)) (λ i j hi hj. exchanged-row i (8 * row_bytes n + j) hi (omega arith));
    spare = λ z i j hi lo hj.
        exchanged-row i (8 * row_bytes n + j) hi (omega arith) ∙ z (exchanged_row x y i) j (exchanged_row_below x y n hx hy i hi) lo hj;
  }
