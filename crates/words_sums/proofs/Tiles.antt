-- Sums over the rows of a block, in groups of at most eight rows. The bits of a group are packed, a byte for each column, and turned, eight bytes by eight.
--   tiles_sum             the entries that byte i of each tile names add up to the entries of `part` at the ones of bit i of the packed bytes
--   tiles_row             and so to those at the ones of row i of the group
--   AddedBelow            the entries before n have f added, the others are as they were, both as far as the list goes
--   added_group           one group of entries more, lent as a part
-- Assumes nothing.
use mathlib.Core.Path.{◌≡◌, sym, ap, ap₂, ◌∙◌}
use mathlib.Core.List.{List, ◌++◌}
use Prim.Native.Nat.{ℕ, ◌+◌, ◌-◌, ◌*◌, ◌/◌, ◌%◌, ◌^◌, ◌≤◌, ◌<◌}
use native.Mathlib.Decide.{dec_lt}
use native.Mathlib.Omega.{arith}
use borrow.Rule.Slice.PartMut.{put_mid, drop_put}
use lib.ListN.{length, get_or, take, drop, get_or-append}
use lib.Seq.{get_or-drop}
use Rattle.bch.specs.Polynomial.{◌⊕◌}
use Rattle.bch.specs.Powers.{xor_sum}
use Rattle.bch.proofs.PowerSum.{xor_sum-same}
use Rattle.staircase.proofs.Fill.{each_part}
use Rattle.bch_remainders.proofs.Rows.{row_at}
use Rattle.words_tables.specs.Tables.{Sums}
use Rattle.words_tables.proofs.Tables.{byte-sum, sum_of_eights}
use Rattle.words_sums.proofs.Groups.{sum_padded, part-behind, rows_at}

-- ---- the sum of a row

module _ (part tables packed turned : List ℕ) (i : ℕ) (S : Sums part tables) (bytes : (k : ℕ) → get_or turned k 0 < 256)
    (bits : (c s : ℕ) → c < (length part + 7) / 8 → s < 8 → get_or turned (8 * c + i) 0 / 2 ^ s % 2 ≡ get_or packed (8 * c + s) 0 / 2 ^ i % 2) where
  pub tiles_sum : xor_sum ((length part + 7) / 8) (λ c. get_or tables (256 * c + get_or turned (8 * c + i) 0) 0)
      ≡ xor_sum (length part) (λ k. get_or packed k 0 / 2 ^ i % 2 * get_or part k 0)
  tiles_sum =
      let w : ℕ = length part in
      let n : ℕ = (length part + 7) / 8 in
      let f : ℕ → ℕ = λ k. get_or packed k 0 / 2 ^ i % 2 * get_or part k 0 in
      xor_sum-same n (λ c. get_or tables (256 * c + get_or turned (8 * c + i) 0) 0) (λ c. xor_sum 8 (λ s. f (8 * c + s)))
      (λ c h. byte-sum part tables S c (get_or turned (8 * c + i) 0) (bytes (8 * c + i)) (omega (arith, S.long))
      ∙ xor_sum-same 8 (λ s. get_or turned (8 * c + i) 0 / 2 ^ s % 2 * get_or part (8 * c + s) 0) (λ s. f (8 * c + s))
      (λ s l. ap (λ (b : ℕ). b * get_or part (8 * c + s) 0) (bits c s h l)))
      ∙ sum_of_eights n f ∙ sum_padded w (8 * n) f (omega arith) (λ k l. part-behind part (get_or packed k 0 / 2 ^ i % 2) k l)

  -- the first bytes are `ys`, those that were packed
  pub tiles_row : (block ys rest : List ℕ) (g r : ℕ) → i < r → packed ≡ ys ++ rest → length ys ≡ length part
      → ((k : ℕ) → k < length part → get_or ys k 0 / 2 ^ i % 2
      ≡ get_or (take (8 * g * length part + r * length part - 8 * g * length part) (drop (8 * g * length part) block)) (i * length part + k) 0)
      → xor_sum ((length part + 7) / 8) (λ c. get_or tables (256 * c + get_or turned (8 * c + i) 0) 0)
      ≡ xor_sum (length part) (λ j. get_or block ((8 * g + i) * length part + j) 0 * get_or part j 0)
  tiles_row block ys rest g r h is long columns =
      tiles_sum
      ∙ xor_sum-same (length part) (λ k. get_or packed k 0 / 2 ^ i % 2 * get_or part k 0) (λ j. get_or block ((8 * g + i) * length part + j) 0 * get_or part j 0)
      (λ k l. ap (λ (b : ℕ). b * get_or part k 0)
      (ap (λ (z : ℕ). z / 2 ^ i % 2) (ap (λ (t : List ℕ). get_or t k 0) is ∙ get_or-append ys rest 0 k (omega arith))
      ∙ columns k l ∙ rows_at block g r (length part) i k l h))

-- ---- entries added to, group by group

abbrev pub AddedBelow : List ℕ → (ℕ → ℕ) → ℕ → List ℕ → Type 0
AddedBelow old f n new =
    (k : ℕ) → k < length old → (k < n → get_or new k 0 ≡ get_or old k 0 ⊕ f k) × (n ≤ k → get_or new k 0 ≡ get_or old k 0)

-- the group's r entries were lent and came back as ys, with v added
pub added_group : (old l ys : List ℕ) (f v : ℕ → ℕ) (g r : ℕ) → length l ≡ length old → 8 * g + r ≤ length old → r ≤ 8 → (r < 8 → 8 * g + r ≡ length old)
    → length ys ≡ r → AddedBelow old f (8 * g) l → ((i : ℕ) → i < r → get_or ys i 0 ≡ get_or (take (8 * g + r - 8 * g) (drop (8 * g) l)) i 0 ⊕ v i)
    → ((i : ℕ) → i < r → v i ≡ f (8 * g + i)) → AddedBelow old f (8 * (g + 1)) (take (8 * g) l ++ (ys ++ drop (8 * g + r - 8 * g) (drop (8 * g) l)))
added_group old l ys f v g r same room few last long before here is k h = (
  λ m. each_part (λ q z. z ≡ get_or old q 0 ⊕ f q) l ys (8 * g) (8 * g + r - 8 * g) (omega arith) (omega arith)
      (λ q o. (before q (omega arith)).0 o)
      (λ s o. let p : s < r = omega arith in
      here s p ∙ ap₂ ◌⊕◌ (row_at l (8 * g) r s p ∙ (before (8 * g + s) (omega arith)).1 (omega arith)) (is s p))
      k (omega (arith, within (dec_lt r 8) m)),
  λ m. let e : 8 * g + r + (k - (8 * g + r)) ≡ k = omega arith in
      let new : List ℕ = put_mid (8 * g) (8 * g + r - 8 * g) l ys in
      ap (λ (q : ℕ). get_or new q 0) (sym e) ∙ sym (get_or-drop (8 * g + r) new (k - (8 * g + r)) 0)
      ∙ ap (λ (t : List ℕ). get_or t (k - (8 * g + r)) 0) (drop_put (8 * g) (8 * g + r) l ys (omega arith) (omega arith) (omega arith))
      ∙ get_or-drop (8 * g + r) l (k - (8 * g + r)) 0 ∙ ap (λ (q : ℕ). get_or l q 0) e ∙ (before k h).1 (omega arith),
)
  where
    within : Dec (r < 8) → k < 8 * (g + 1) → k < 8 * g + r
    within (yes o) m = omega (arith, last o)
    within (no o) m = omega arith

-- ---- working bytes
