-- Sums by groups of eight: a byte names the sum of a group, and a block's rows are packed group by group.
--   sum_padded     the sum to k, where the terms from n on are 0, is the sum to n
--   byte-names     what byte x names in table g is the sum of group g, where each bit of x times its entry is the group's term
--   part-behind    behind its last entry a part counts as 0
--   rows-read      how many rows are read after one group more
--   rows_end       the stretch of a group's rows ends within the block
--   rows_at        entry a of row i of a group is entry a of row 8 g + i of the block
--   rows_term      so are their products with the part's entry; the rows that a last group does not have count as 0
-- Assumes nothing.
use mathlib.Core.Path.{◌≡◌, sym, ap, ◌∙◌}
use mathlib.Core.List.{List}
use Prim.Native.Nat.{ℕ, ◌+◌, ◌-◌, ◌*◌, ◌/◌, ◌%◌, ◌^◌, ◌≤◌, ◌<◌, min}
use native.Mathlib.Nat.{add-mul, mul-zero, mul-le-mul_right}
use native.Mathlib.Decide.{dec_lt}
use native.Mathlib.Omega.{arith}
use lib.ListN.{length, get_or, take, drop, get_or-eq_default}
use Rattle.bch.specs.Polynomial.{◌⊕◌}
use Rattle.bch.specs.Powers.{xor_sum}
use Rattle.bch.proofs.Sum.{⊕-zero-right}
use Rattle.bch.proofs.PowerSum.{xor_sum-same, xor_sum-zero, xor_sum-append}
use Rattle.bch_remainders.proofs.Rows.{row_end, row_at}
use Rattle.words_tables.specs.Tables.{Sums}
use Rattle.words_tables.proofs.Tables.{byte-sum}

-- ---- sums of groups

pub sum_padded : (n k : ℕ) (f : ℕ → ℕ) → n ≤ k → ((j : ℕ) → n ≤ j → f j ≡ 0) → xor_sum k f ≡ xor_sum n f
sum_padded n k f h z =
    let e : k ≡ n + (k - n) = omega arith in
    ap (λ (i : ℕ). xor_sum i f) e ∙ xor_sum-append n (k - n) f
    ∙ ap (λ (x : ℕ). xor_sum n f ⊕ x) (xor_sum-zero (k - n) (λ j. f (n + j)) (λ j l. z (n + j) (omega arith))) ∙ ⊕-zero-right (xor_sum n f)

pub byte-names : (part tables : List ℕ) → Sums part tables → (g x : ℕ) (f : ℕ → ℕ) → x < 256 → 256 * g + 256 ≤ length tables
    → ((i : ℕ) → i < 8 → x / 2 ^ i % 2 * get_or part (8 * g + i) 0 ≡ f (8 * g + i))
    → get_or (take (256 * g + 256 - 256 * g) (drop (256 * g) tables)) x 0 ≡ xor_sum 8 (λ i. f (8 * g + i))
byte-names part tables S g x f h l e =
    row_at tables (256 * g) 256 x h ∙ byte-sum part tables S g x h l
    ∙ xor_sum-same 8 (λ i. x / 2 ^ i % 2 * get_or part (8 * g + i) 0) (λ i. f (8 * g + i)) e

pub part-behind : (part : List ℕ) (x j : ℕ) → length part ≤ j → x * get_or part j 0 ≡ 0
part-behind part x j h = ap (λ (y : ℕ). x * y) (get_or-eq_default part 0 {n = j} h) ∙ mul-zero x

-- ---- the rows of a group

pub rows-read : (g count n : ℕ) → 8 * g + count ≤ n → count ≤ 8 → (count < 8 → 8 * g + count ≡ n) → min (8 * g) n + count ≡ min (8 * (g + 1)) n
rows-read g count n h l last = go (dec_lt count 8)
  where
    go : Dec (count < 8) → min (8 * g) n + count ≡ min (8 * (g + 1)) n
    go (yes k) = omega (arith, last k)
    go (no k) = omega arith

pub rows_end : (g count n w : ℕ) → 8 * g + count ≤ n → 8 * g * w + count * w ≤ n * w
rows_end g count n w h = rw add-mul at (mul-le-mul_right w h)

module _ (block : List ℕ) (g count w i a : ℕ) (h : a < w) where
  pub rows_at : i < count → get_or (take (8 * g * w + count * w - 8 * g * w) (drop (8 * g * w) block)) (i * w + a) 0 ≡ get_or block ((8 * g + i) * w + a) 0
  rows_at l =
      let e : 8 * g * w + (i * w + a) ≡ (8 * g + i) * w + a = omega (arith, add-mul (8 * g) i w) in
      row_at block (8 * g * w) (count * w) (i * w + a) (omega (arith, row_end i count w l)) ∙ ap (λ (k : ℕ). get_or block k 0) e

  pub rows_term : (part : List ℕ) (x : ℕ) → (count < 8 → 8 * g + count ≡ length part) → i < 8
      → x ≡ get_or (take (8 * g * w + count * w - 8 * g * w) (drop (8 * g * w) block)) (i * w + a) 0
      → x * get_or part (8 * g + i) 0 ≡ get_or block ((8 * g + i) * w + a) 0 * get_or part (8 * g + i) 0
  rows_term part x last l e = go (dec_lt i count)
    where
      go : Dec (i < count) → x * get_or part (8 * g + i) 0 ≡ get_or block ((8 * g + i) * w + a) 0 * get_or part (8 * g + i) 0
      go (yes k) = ap (λ (y : ℕ). y * get_or part (8 * g + i) 0) (e ∙ rows_at k)
      go (no k) =
          let b : length part ≤ 8 * g + i = omega (arith, last (omega arith)) in
          part-behind part x (8 * g + i) b ∙ sym (part-behind part (get_or block ((8 * g + i) * w + a) 0) (8 * g + i) b)
