-- A packed matrix.
--   packed-length, packed-entry, packed-spare, packed_byte_lem   its length, its entries, its spare bits, its bytes
--   packed-only                                 bytes with these entries are the packed matrix
--   packed-same                                 matrices with the same entries, packed
-- Assumes nothing.
use mathlib.Core.Path.{◌≡◌, sym, ap, ap₂, ◌∙◌, subst}
use mathlib.Core.Bool.{Bool, true, false, cond}
use mathlib.Core.List.{List}
use Prim.Native.Nat.{ℕ, ◌+◌, ◌*◌, ◌/◌, ◌%◌, ◌≤◌, ◌<◌}
use native.Mathlib.Nat.{mod-lt, div-add-mod', div-lt_iff_lt-mul}
use native.Mathlib.Decide.{dec_lt}
use native.Mathlib.Omega.{arith}
use lib.Dec.{ltb}
use lib.ListN.{length, get_or, get_or-eq_default}
use lib.Seq.{ext_get_or}
use borrow.Author.Tests.{lt-ltb, le-ltb}
use Rattle.staircase.specs.Lists.{tabulate}
use Rattle.staircase.specs.System.{Contents, inverse_entry, row_bytes}
use Rattle.staircase.specs.Square.{BitMatrix, digit, number, packed_byte, packed_matrix}
use Rattle.staircase.proofs.Tabulate.{Binary, tabulate-length, tabulate-at, tabulate-same, concat-same, concat-length, concat-at}
use Rattle.staircase.proofs.Square.{digit-number, number-below, number_same, number_digits}

module _ (n : ℕ) (w : ℕ → ℕ → ℕ) (hw : BitMatrix w) where
  abbrev row_of : ℕ → List ℕ
  row_of i = tabulate (row_bytes n) (packed_byte n (w i))

  row-length : (i : ℕ) → length (tabulate (row_bytes n) (packed_byte n (w i))) ≡ row_bytes n
  row-length i = tabulate-length (row_bytes n) (packed_byte n (w i))

  pub packed-length : length (packed_matrix n w) ≡ n * row_bytes n
  unfolding packed_matrix
  packed-length = concat-length n (row_bytes n) row_of row-length

  shown : ℕ → ℕ → Contents
  shown i b k = cond (ltb (8 * b + k) n) (w i (8 * b + k)) 0

  shown_bit : (i b : ℕ) → Binary (shown i b)
  unfolding shown
  shown_bit i b k = go (ltb (8 * b + k) n)
    where
      go : (z : Bool) → cond z (w i (8 * b + k)) 0 < 2
      go true = hw i (8 * b + k)
      go false = omega arith

  byte_at : (i b : ℕ) → i < n → b < row_bytes n → get_or (packed_matrix n w) (i * row_bytes n + b) 0 ≡ number 8 (shown i b)
  unfolding packed_matrix packed_byte shown
  byte_at i b hi hb = concat-at n (row_bytes n) row_of row-length i b hi hb ∙ tabulate-at (row_bytes n) (packed_byte n (w i)) 0 b hb

  entry-at : (i j : ℕ) → i < n → j < 8 * row_bytes n → inverse_entry (packed_matrix n w) n i j ≡ cond (ltb j n) (w i j) 0
  unfolding inverse_entry shown
  entry-at i j hi hj =
      ap (λ (z : ℕ). digit z (j % 8)) (byte_at i (j / 8) hi (omega arith))
      ∙ digit-number 8 (shown i (j / 8)) (shown_bit i (j / 8)) (j % 8) (omega arith)
      ∙ ap (λ (z : ℕ). cond (ltb z n) (w i z) 0) (omega arith)

  pub packed-entry : (i j : ℕ) → i < n → j < n → inverse_entry (packed_matrix n w) n i j ≡ w i j
  packed-entry i j hi hj = entry-at i j hi (omega arith) ∙ ap (λ (z : Bool). cond z (w i j) 0) (lt-ltb j n hj)

  pub packed-spare : (i j : ℕ) → i < n → n ≤ j → j < 8 * row_bytes n → inverse_entry (packed_matrix n w) n i j ≡ 0
  packed-spare i j hi lo hj = entry-at i j hi hj ∙ ap (λ (z : Bool). cond z (w i j) 0) (le-ltb j n lo)

  pub packed_byte_lem : 0 < n → (k : ℕ) → get_or (packed_matrix n w) k 0 < 256
  packed_byte_lem pos k = go (dec_lt k (n * row_bytes n))
    where
      go : Dec (k < n * row_bytes n) → get_or (packed_matrix n w) k 0 < 256
      go (yes h) =
          let rb : ℕ = row_bytes n in
          let rpos : 0 < rb = omega arith in
          let e : k / rb * rb + k % rb ≡ k = div-add-mod' k rb in
          let at : get_or (packed_matrix n w) k 0 ≡ number 8 (shown (k / rb) (k % rb)) =
          ap (λ (z : ℕ). get_or (packed_matrix n w) z 0) (sym e) ∙ byte_at (k / rb) (k % rb) ((div-lt_iff_lt-mul rpos).1 h) (mod-lt k rpos) in
          subst (λ (z : ℕ). z < 256) (sym at) (number-below 8 (shown (k / rb) (k % rb)) (shown_bit (k / rb) (k % rb)))
      go (no h) = let z = get_or-eq_default (packed_matrix n w) 0 {n = k} (omega (arith, packed-length, h)) in omega (arith, z)

  -- bytes with these entries, and spare bits of 0
  pub packed-only : 0 < n → (u : List ℕ) → length u ≡ n * row_bytes n → ((k : ℕ) → get_or u k 0 < 256)
      → ((i j : ℕ) → i < n → j < n → inverse_entry u n i j ≡ w i j) → ((i j : ℕ) → i < n → n ≤ j → j < 8 * row_bytes n → inverse_entry u n i j ≡ 0)
      → u ≡ packed_matrix n w
  unfolding inverse_entry shown
  packed-only pos u long bytes same spare = ext_get_or 0 u (packed_matrix n w) (long ∙ sym packed-length) (λ k h. at k (subst (λ (z : ℕ). k < z) long h))
    where
      each : (i b r : ℕ) → i < n → b < row_bytes n → r < 8 → digit (get_or u (i * row_bytes n + b) 0) r ≡ shown i b r
      each i b r hi hb hr = go (dec_lt (8 * b + r) n)
        where
          here : inverse_entry u n i (8 * b + r) ≡ digit (get_or u (i * row_bytes n + b) 0) r
          here = ap₂ (λ (x y : ℕ). digit (get_or u (i * row_bytes n + x) 0) y) (omega arith) (omega arith)

          go : Dec (8 * b + r < n) → digit (get_or u (i * row_bytes n + b) 0) r ≡ shown i b r
          go (yes l) = sym here ∙ same i (8 * b + r) hi l ∙ sym (ap (λ (z : Bool). cond z (w i (8 * b + r)) 0) (lt-ltb (8 * b + r) n l))
          go (no l) =
              sym here ∙ spare i (8 * b + r) hi (omega arith) (omega arith)
              ∙ sym (ap (λ (z : Bool). cond z (w i (8 * b + r)) 0) (le-ltb (8 * b + r) n (omega arith)))

      at : (k : ℕ) → k < n * row_bytes n → get_or u k 0 ≡ get_or (packed_matrix n w) k 0
      at k h =
          let rb : ℕ = row_bytes n in
          let rpos : 0 < rb = omega arith in
          let i : ℕ = k / rb in
          let b : ℕ = k % rb in
          let hi : i < n = (div-lt_iff_lt-mul rpos).1 h in
          let hb : b < rb = mod-lt k rpos in
          let e : i * rb + b ≡ k = div-add-mod' k rb in
          ap (λ (z : ℕ). get_or u z 0) (sym e)
          ∙ sym (number_digits 8 (get_or u (i * rb + b) 0) (bytes (i * rb + b)))
          ∙ number_same 8 (digit (get_or u (i * rb + b) 0)) (shown i b) (λ r hr. each i b r hi hb hr)
          ∙ sym (byte_at i b hi hb)
          ∙ ap (λ (z : ℕ). get_or (packed_matrix n w) z 0) e

pub packed-same : (n : ℕ) (u w : ℕ → ℕ → ℕ) → ((i j : ℕ) → u i j ≡ w i j) → packed_matrix n u ≡ packed_matrix n w
unfolding packed_matrix packed_byte
packed-same n u w same =
    concat-same n (λ i. tabulate (row_bytes n) (packed_byte n (u i))) (λ i. tabulate (row_bytes n) (packed_byte n (w i))) (λ i l.
    tabulate-same (row_bytes n) (packed_byte n (u i)) (packed_byte n (w i)) (λ b h.
    number_same 8 (λ k. cond (ltb (8 * b + k) n) (u i (8 * b + k)) 0) (λ k. cond (ltb (8 * b + k) n) (w i (8 * b + k)) 0) (λ k m.
    ap (λ (z : ℕ). cond (ltb (8 * b + k) n) z 0) (same i (8 * b + k)))))
