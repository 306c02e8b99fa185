-- The right halves of the rows below n as bytes of their own.
--   right_halves                   one after the other
--   halves-length, halves-below   their number, and that they are below 256
--   halves-byte, halves-entry     each of them, and their bits
-- Assumes nothing.
use mathlib.Core.Path.{◌≡◌, ap, ap₂, ◌∙◌, sym, subst}
use mathlib.Core.List.{List}
use Prim.Native.Nat.{ℕ, ◌+◌, ◌*◌, ◌/◌, ◌%◌, ◌≤◌, ◌<◌}
use native.Mathlib.Decide.{dec_lt}
use native.Mathlib.Omega.{arith}
use lib.Arith.{digits_div, digits_mod}
use lib.ListN.{length, get_or, get_or-eq_default}
use Rattle.staircase.specs.Lists.{tabulate}
use Rattle.staircase.specs.System.{inverse_entry, row_bytes}
use Rattle.staircase.specs.Square.{digit}
use Rattle.staircase.proofs.Bounds.{stretch-end}
use Rattle.staircase.proofs.Tabulate.{tabulate-length, tabulate-at}
use Rattle.matrix_elimination.specs.Steps.{row_width, bit_at, right}

-- byte q of them
abbrev right_byte : ℕ → List ℕ → ℕ → ℕ
right_byte n m q = get_or m (q / row_bytes n * row_width n + (row_bytes n + q % row_bytes n)) 0

unfoldable pub right_halves : ℕ → List ℕ → List ℕ
right_halves n m = tabulate (n * row_bytes n) (right_byte n m)

module _ (n : ℕ) (m : List ℕ) where
  pub halves-length : length (right_halves n m) ≡ n * row_bytes n
  unfolding right_halves
  halves-length = tabulate-length (n * row_bytes n) (right_byte n m)

  pub halves-byte : (i c : ℕ) → i < n → c < row_bytes n → get_or (right_halves n m) (i * row_bytes n + c) 0 ≡ get_or m (i * row_width n + (row_bytes n + c)) 0
  unfolding right_halves
  halves-byte i c hi hc =
      tabulate-at (n * row_bytes n) (right_byte n m) 0 (i * row_bytes n + c) (omega (arith, stretch-end i n (row_bytes n) hi, hc))
      ∙ ap₂ (λ (x y : ℕ). get_or m (x * row_width n + (row_bytes n + y)) 0) (digits_div i hc) (digits_mod i hc)

  pub halves-below : ((k : ℕ) → get_or m k 0 < 256) → (k : ℕ) → get_or (right_halves n m) k 0 < 256
  unfolding right_halves
  halves-below bytes k = go (dec_lt k (n * row_bytes n))
    where
      go : Dec (k < n * row_bytes n) → get_or (right_halves n m) k 0 < 256
      go (yes h) =
          subst (λ (z : ℕ). z < 256) (sym (tabulate-at (n * row_bytes n) (right_byte n m) 0 k h))
          (bytes (k / row_bytes n * row_width n + (row_bytes n + k % row_bytes n)))
      go (no h) =
          let e : length (right_halves n m) ≤ k = omega (arith, halves-length, h) in
          subst (λ (z : ℕ). z < 256) (sym (get_or-eq_default (right_halves n m) 0 e)) (omega arith)

  pub halves-entry : (i j : ℕ) → i < n → j < 8 * row_bytes n → inverse_entry (right_halves n m) n i j ≡ right n m i j
  unfolding inverse_entry bit_at
  halves-entry i j hi hj =
      ap (λ (z : ℕ). digit z (j % 8)) (halves-byte i (j / 8) hi (omega (arith, hj)))
      ∙ ap₂ (λ (x y : ℕ). digit (get_or m (i * row_width n + x) 0) y) (omega arith) (omega arith)
