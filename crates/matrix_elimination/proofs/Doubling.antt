-- A table of sums, in the rows from n on, that is doubled row by row.
--   SumsOf                                 a table of the sums of h rows
--   Doubled                                the first 2^p rows of the table, and x of those after them
--   doubled_none, doubled_next             before the first, after one more
--   doubled_all                            after the last: a table of the sums of one row more
--   table_none, table_rows, table-length   where row n was made 0: the table of the sum of no rows, the rows before it, the length
-- Assumes nothing.
use mathlib.Core.Path.{◌≡◌, refl, sym, ap, ap₂, ◌∙◌, subst}
use mathlib.Core.Bool.{Bool, cond}
use mathlib.Core.List.{List}
use Prim.Native.Nat.{ℕ, suc, ◌+◌, ◌-◌, ◌*◌, ◌/◌, ◌%◌, ◌^◌, ◌≤◌, ◌<◌}
use native.Mathlib.Nat.{zero-mul}
use native.Mathlib.Numerals.{add-one}
use native.Mathlib.Decide.{ℕ_discrete, dec_lt}
use native.Mathlib.Omega.{arith}
use lib.ListN.{length, get_or, take, drop, replicate}
use borrow.Author.Tests.{eq-eqb, ne_eqb}
use Rattle.staircase.specs.Lists.{bit_sum, sum_bits}
use Rattle.staircase.specs.Square.{digit}
use Rattle.staircase.proofs.Bounds.{stretch-end}
use Rattle.staircase.proofs.Matrix.{bit_sum-zero, sum_bits-lt, sum_bits-same}
use Rattle.staircase.proofs.Columns.{sum_bits_last}
use Rattle.staircase.proofs.Steps.{table_more}
use Rattle.matrix.proofs.Bits.{bit_above, bit-zero}
use Rattle.matrix_elimination.specs.Steps.{bit_at}
use Rattle.matrix_elimination.proofs.PartBack.{back, back_length, back_before, back_within, zeros-length, zeros-byte}
use Rattle.matrix_elimination.proofs.RowBits.{Summed, summed_bit, bit-lt}

-- `TableOf` for rows of any number of bytes
abbrev pub SumsOf : ℕ → ℕ → List ℕ → ℕ → ℕ → Type 0
SumsOf n w m lo h = (x j : ℕ) → x < 2 ^ h → j < 8 * w → bit_at m w (n + x) j ≡ sum_bits h (λ q. digit x q * bit_at m w (lo + q) j)

-- m₀ became m
pub record Doubled (m₀ : List ℕ) (n w lo p : ℕ) (m : List ℕ) (x : ℕ) : Type 0 where
  pub kept : (i j : ℕ) → i < n → j < 8 * w → bit_at m w i j ≡ bit_at m₀ w i j
  pub low : (y j : ℕ) → y < 2 ^ p → j < 8 * w → bit_at m w (n + y) j ≡ sum_bits p (λ q. digit y q * bit_at m₀ w (lo + q) j)
  pub high : (y j : ℕ) → y < x → j < 8 * w
      → bit_at m w (n + (1 * 2 ^ p + y)) j ≡ sum_bits (suc p) (λ q. digit (1 * 2 ^ p + y) q * bit_at m₀ w (lo + q) j)

module _ (m₀ : List ℕ) (n w lo p : ℕ) where
  pub doubled_none : SumsOf n w m₀ lo p → Doubled m₀ n w lo p m₀ 0
  doubled_none h = record { kept = λ i j hi hj. refl; low = h; high = λ y j l. absurd (omega arith) }

  -- row n + s + x is made, of row n + x and of row lo + p
  module _ (room : lo + p < n) (m new : List ℕ) (s x : ℕ) (size : s ≡ 2 ^ p) (fit : s ≤ 128) (hx : x < s) (k₀ : Doubled m₀ n w lo p m x)
      (f : Summed (n + 256) w (n + s + x) (n + x) (lo + p) m new) where
    other : (k j : ℕ) → k < n + 256 → j < 8 * w → (k ≡ n + s + x → ⊥) → bit_at new w k j ≡ bit_at m w k j
    other k j hk hj d =
        summed_bit (n + 256) w (n + s + x) (n + x) (lo + p) m new f k j hk hj
        ∙ ap (λ (z : Bool). cond z (bit_sum (bit_at m w (n + x) j) (bit_at m w (lo + p) j)) (bit_at m w k j)) (ne_eqb k (n + s + x) d)

    made : (j : ℕ) → j < 8 * w → bit_at new w (n + s + x) j ≡ bit_sum (bit_at m w (n + x) j) (bit_at m w (lo + p) j)
    made j hj =
        summed_bit (n + 256) w (n + s + x) (n + x) (lo + p) m new f (n + s + x) j (omega arith) hj
        ∙ ap (λ (z : Bool). cond z (bit_sum (bit_at m w (n + x) j) (bit_at m w (lo + p) j)) (bit_at m w (n + s + x) j))
        (eq-eqb (n + s + x) (n + s + x) refl)

    pub doubled_next : Doubled m₀ n w lo p new (x + 1)
    doubled_next = record {
      kept = λ i j hi hj. other i j (omega (arith, hi)) hj (λ d. omega (arith, d, hi)) ∙ k₀.kept i j hi hj;
      low = λ y j l hj. other (n + y) j (omega (arith, l, size, fit)) hj (λ d. omega (arith, d, l, size)) ∙ k₀.low y j l hj;
      high = λ y j l hj. go y j l hj (ℕ_discrete y x);
    }
      where
        there : (y : ℕ) → n + (1 * 2 ^ p + y) ≡ n + s + y
        there y = omega (arith, size)

        go : (y j : ℕ) → y < x + 1 → j < 8 * w → Dec (y ≡ x)
            → bit_at new w (n + (1 * 2 ^ p + y)) j ≡ sum_bits (suc p) (λ q. digit (1 * 2 ^ p + y) q * bit_at m₀ w (lo + q) j)
        go y j l hj (no d) =
            other (n + (1 * 2 ^ p + y)) j (omega (arith, there y, l, hx, fit)) hj (λ e. d (omega (arith, e, there y)))
            ∙ k₀.high y j (omega arith) hj
        go y j l hj (yes d) =
            ap (λ (z : ℕ). bit_at new w z j) (there y ∙ ap (λ (z : ℕ). n + s + z) d) ∙ made j hj
            ∙ ap₂ bit_sum (k₀.low x j (omega (arith, hx, size)) hj) (k₀.kept (lo + p) j room hj)
            ∙ sym (table_more p x (λ q. bit_at m₀ w (lo + q) j) (omega (arith, hx, size)) (bit-lt m₀ w (lo + p) j))
            ∙ ap (λ (z : ℕ). sum_bits (suc p) (λ q. digit (1 * 2 ^ p + z) q * bit_at m₀ w (lo + q) j)) (sym d)

  pub doubled_all : lo + p < n → (m : List ℕ) → Doubled m₀ n w lo p m (2 ^ p) → SumsOf n w m lo (p + 1)
  doubled_all room m k x j l hj =
      subst (λ (z : ℕ). bit_at m w (n + x) j ≡ sum_bits z (λ q. digit x q * bit_at m w (lo + q) j)) (sym (add-one p))
      (go (dec_lt x (2 ^ p))
      ∙ sum_bits-same (suc p) (λ q. digit x q * bit_at m₀ w (lo + q) j) (λ q. digit x q * bit_at m w (lo + q) j)
      (λ q h. ap (λ (z : ℕ). digit x q * z) (sym (k.kept (lo + q) j (omega (arith, h, room)) hj))))
    where
      go : Dec (x < 2 ^ p) → bit_at m w (n + x) j ≡ sum_bits (suc p) (λ q. digit x q * bit_at m₀ w (lo + q) j)
      go (yes h) =
          k.low x j h hj
          ∙ sym (sum_bits_last p (λ q. digit x q * bit_at m₀ w (lo + q) j)
          ∙ ap (bit_sum (sum_bits p (λ q. digit x q * bit_at m₀ w (lo + q) j)))
          (ap (λ (z : ℕ). z * bit_at m₀ w (lo + p) j) (bit_above x p p h (omega arith)) ∙ zero-mul (bit_at m₀ w (lo + p) j))
          ∙ bit_sum-zero (sum_bits p (λ q. digit x q * bit_at m₀ w (lo + q) j)) (sum_bits-lt p (λ q. digit x q * bit_at m₀ w (lo + q) j)))
      go (no h) =
          let y : ℕ = x - 2 ^ p in
          let two : 2 ^ (p + 1) ≡ 2 ^ p + 2 ^ p = ap (λ (z : ℕ). 2 ^ z) (add-one p) ∙ omega arith in
          let e : 1 * 2 ^ p + y ≡ x = omega arith in
          subst (λ (z : ℕ). bit_at m w (n + z) j ≡ sum_bits (suc p) (λ q. digit z q * bit_at m₀ w (lo + q) j)) e
          (k.high y j (omega (arith, l, two, h)) hj)

-- ---- before the first row: row n was lent, of k bytes, and made 0

module _ (m ys : List ℕ) (n w k : ℕ) (long : length m ≡ (n + 256) * w) (ek : k ≡ w)
    (zero : ys ≡ replicate (length (take k (drop (n * w) m))) 0) where
  within : n * w + k ≤ length m
  within = omega (arith, long, ek, stretch-end n (n + 256) w (omega arith))

  part : length ys ≡ k
  part = zeros-length m ys (n * w) k within zero

  pub table-length : length (back m ys (n * w) k) ≡ length m
  table-length = back_length m ys (n * w) k within part

  pub table_rows : (i j : ℕ) → i < n → j < 8 * w → bit_at (back m ys (n * w) k) w i j ≡ bit_at m w i j
  unfolding bit_at
  table_rows i j hi hj =
      ap (λ (z : ℕ). digit z (j % 8))
      (back_before m ys (n * w) k within part (i * w + j / 8) (omega (arith, stretch-end i n w hi, hj)))

  pub table_none : (lo : ℕ) → SumsOf n w (back m ys (n * w) k) lo 0
  unfolding bit_at sum_bits
  table_none lo x j l hj =
      let e : n + x ≡ n = omega arith in
      ap (λ (z : ℕ). digit z (j % 8))
      (ap (λ (z : ℕ). get_or (back m ys (n * w) k) (z * w + j / 8) 0) e
      ∙ back_within m ys (n * w) k within part (j / 8) (omega (arith, ek, hj)) ∙ zeros-byte m ys (n * w) k within zero (j / 8))
      ∙ bit-zero (j % 8)
