-- Sums of words by exclusive or: products with a packed matrix, by tables of sums.
--   table_of_part                 an entry of the table of eight words that are lent as a part
--   product-none, product-more    the product of a row with no words; with those of n bytes more
--   product-same, product-spare   by words that are equal; words that are 0 add nothing
--   product-bit                   a bit of it
--   sum_of_eight                  eight terms, one after the other
--   xor_sum-bit                    a bit of a sum is the sum of bits
-- Assumes nothing.
use mathlib.Core.Path.{◌≡◌, sym, ap, ap₂, ◌∙◌}
use mathlib.Core.List.{List}
use Prim.Native.Nat.{ℕ, zero, suc, ◌+◌, ◌-◌, ◌*◌, ◌/◌, ◌%◌, ◌^◌, ◌≤◌, ◌<◌}
use native.Mathlib.Nat.{zero-mul, mul-zero, one-mul}
use native.Mathlib.Omega.{arith}
use lib.Bits.{bit_xor}
use lib.ListN.{get_or, take, drop}
use Rattle.bch.specs.Polynomial.{◌⊕◌}
use Rattle.bch.specs.Powers.{xor_sum}
use Rattle.bch.proofs.Sum.{bit_ind, mod2_bit, ⊕-zero-right, ⊕_assoc}
use Rattle.bch.proofs.PowerSum.{xor_sum-same, xor_sum-zero, xor_sum-append}
use Rattle.staircase.specs.Lists.{bit_sum, sum_bits}
use Rattle.staircase.proofs.Entries.{sum_bits_last}
use Rattle.matrix.proofs.Bits.{bit, bit-zero, bit-xor}
use Rattle.bch_remainders.proofs.Rows.{row_at}
use Rattle.words_tables.specs.Tables.{sum_at, table_entry}
use Rattle.words_tables.proofs.Tables.{table_is, sum_of_eights}
use Rattle.encoder_solution.specs.Words.{row_entry, row_product}

-- table j, of words that are lent as a part
pub table_of_part : (words : List ℕ) (j s : ℕ) → s < 256
    → sum_at (λ i. get_or (take (8 * j + 8 - 8 * j) (drop (8 * j) words)) i 0) 8 s ≡ table_entry (λ k. get_or words k 0) (256 * j + s)
unfolding sum_at
table_of_part words j s h =
    xor_sum-same 8 (λ i. s / 2 ^ i % 2 * get_or (take (8 * j + 8 - 8 * j) (drop (8 * j) words)) i 0) (λ i. s / 2 ^ i % 2 * get_or words (8 * j + i) 0)
    (λ i l. ap (λ (z : ℕ). s / 2 ^ i % 2 * z) (row_at words (8 * j) 8 i l)) ∙ table_is (λ k. get_or words k 0) j s h

-- ---- the product of a row

pub sum_of_eight : (f : ℕ → ℕ) {a b c d e g h i : ℕ} → a ≡ f 0 → b ≡ f 1 → c ≡ f 2 → d ≡ f 3 → e ≡ f 4 → g ≡ f 5 → h ≡ f 6 → i ≡ f 7
    → bit_xor (bit_xor (bit_xor (bit_xor (bit_xor (bit_xor (bit_xor a b) c) d) e) g) h) i ≡ xor_sum 8 f
unfolding xor_sum ◌⊕◌
sum_of_eight f pa pb pc pd pe pg ph pi = rw (pa, pb, pc, pd, pe, pg, ph, pi)

module _ (m : List ℕ) (w : ℕ) (c : ℕ → ℕ) (e : ℕ) where
  pub product-none : (x : ℕ) → x ≡ x ⊕ row_product m w c e (8 * 0)
  unfolding row_product xor_sum
  product-none x = sym (⊕-zero-right x)

  pub product-spare : (n k : ℕ) → n ≤ k → ((i : ℕ) → n ≤ i → c i ≡ 0) → row_product m w c e k ≡ row_product m w c e n
  unfolding row_product
  product-spare n k h zeros =
      let f : ℕ → ℕ = λ i. row_entry m w e i * c i in
      let d : k ≡ n + (k - n) = omega arith in
      ap (λ (z : ℕ). xor_sum z f) d ∙ xor_sum-append n (k - n) f
      ∙ ap (λ (z : ℕ). xor_sum n f ⊕ z)
      (xor_sum-zero (k - n) (λ i. f (n + i)) (λ i l. ap (λ (z : ℕ). row_entry m w e (n + i) * z) (zeros (n + i) (omega arith)) ∙ mul-zero (row_entry m w e (n + i))))
      ∙ ⊕-zero-right (xor_sum n f)

  pub product-same : (n : ℕ) (d : ℕ → ℕ) → ((k : ℕ) → k < n → c k ≡ d k) → row_product m w c e n ≡ row_product m w d e n
  unfolding row_product
  product-same n d same =
      xor_sum-same n (λ k. row_entry m w e k * c k) (λ k. row_entry m w e k * d k) (λ k h. ap (λ (z : ℕ). row_entry m w e k * z) (same k h))

  -- n bytes of the row from byte b on, by the tables of their words
  module _ (b n : ℕ) (part : ℕ → ℕ) (tables : List ℕ) (same : (k : ℕ) → k < 8 * n → part k ≡ c (8 * b + k))
      (by-tables : (q : ℕ) → q < 256 * n → get_or tables q 0 ≡ table_entry part q) (bytes : (q : ℕ) → get_or m q 0 < 256) where
    abbrev term : ℕ → ℕ
    term k = row_entry m w e (8 * b + k) * c (8 * b + k)

    byte-sum : (j : ℕ) → j < n → get_or tables (256 * j + get_or m (e * w + b + j) 0) 0 ≡ xor_sum 8 (λ i. term (8 * j + i))
    unfolding sum_at
    byte-sum j h =
        let x : ℕ = get_or m (e * w + b + j) 0 in
        let l : x < 256 = bytes (e * w + b + j) in
        by-tables (256 * j + x) (omega arith) ∙ sym (table_is part j x l)
        ∙ xor_sum-same 8 (λ i. x / 2 ^ i % 2 * part (8 * j + i)) (λ i. term (8 * j + i))
        (λ i k.
        let at : e * w + b + j ≡ e * w + (8 * b + (8 * j + i)) / 8 = omega arith in
        let bit_of : i ≡ (8 * b + (8 * j + i)) % 8 = omega arith in
        ap₂ ◌*◌ (ap₂ (λ (y z : ℕ). get_or m y 0 / 2 ^ z % 2) at bit_of) (same (8 * j + i) (omega arith)))

    pub product-more : (x s y : ℕ) → s ≡ x ⊕ row_product m w c e (8 * b) → y ≡ s ⊕ xor_sum n (λ j. get_or tables (256 * j + get_or m (e * w + b + j) 0) 0)
        → y ≡ x ⊕ row_product m w c e (8 * (b + n))
    unfolding row_product
    product-more x s y before added =
        let f : ℕ → ℕ = λ k. row_entry m w e k * c k in
        let d : 8 * b + 8 * n ≡ 8 * (b + n) = omega arith in
        added ∙ ap₂ ◌⊕◌ before (xor_sum-same n (λ j. get_or tables (256 * j + get_or m (e * w + b + j) 0) 0) (λ j. xor_sum 8 (λ i. term (8 * j + i))) byte-sum ∙ sum_of_eights n term)
        ∙ ⊕_assoc x (xor_sum (8 * b) f) (xor_sum (8 * n) term) ∙ ap (λ (z : ℕ). x ⊕ z) (sym (xor_sum-append (8 * b) (8 * n) f) ∙ ap (λ (z : ℕ). xor_sum z f) d)

-- ---- a bit of a sum

bit_times : (b x g : ℕ) → b < 2 → bit (b * x) g ≡ b * bit x g
bit_times b x g h =
    bit_ind (λ (b : ℕ). bit (b * x) g ≡ b * bit x g) (ap (λ (z : ℕ). bit z g) (zero-mul x) ∙ bit-zero g ∙ sym (zero-mul (bit x g)))
    (ap (λ (z : ℕ). bit z g) (one-mul x) ∙ sym (one-mul (bit x g))) b h

pub xor_sum-bit : (n g : ℕ) (b x : ℕ → ℕ) → ((k : ℕ) → b k < 2) → xor_sum n (λ k. b k * x k) / 2 ^ g % 2 ≡ sum_bits n (λ k. b k * (x k / 2 ^ g % 2))
unfolding xor_sum ◌⊕◌ sum_bits
xor_sum-bit zero g b x h = bit-zero g
xor_sum-bit (suc n) g b x h =
    bit-xor (xor_sum n (λ k. b k * x k)) (b n * x n) g ∙ ap₂ bit_sum (xor_sum-bit n g b x h) (bit_times (b n) (x n) g (h n))
    ∙ sym (sum_bits_last n (λ k. b k * (x k / 2 ^ g % 2)))

pub product-bit : (m : List ℕ) (w : ℕ) (c : ℕ → ℕ) (e n g : ℕ) → bit (row_product m w c e n) g ≡ sum_bits n (λ k. row_entry m w e k * bit (c k) g)
unfolding row_product
product-bit m w c e n g = xor_sum-bit n g (row_entry m w e) c (λ k. mod2_bit (get_or m (e * w + k / 8) 0 / 2 ^ (k % 8)))
