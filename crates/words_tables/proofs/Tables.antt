-- Tables of sums by exclusive or.
--   Doubled, doubled_none, doubled_more   a table of w sums to which v more are added, each with x
--   sums_none, sums_doubled               a table of the sums of no entry; of one entry more
--   table_is                              an entry of one of several tables
--   sum_of_eights                         a sum of sums of eight terms
--   byte-sum                              the entry of a table that a byte names
--   rest-long, halves-made                the tables of two parts, one after the other: the second half as it is lent; both are made
--   no_halves                             no tables
--   halves_lent                           tables that are lent again
--   no_part                               a part of an empty list
--   parts_rest, parts_made                the tables of four parts, one after the other: the rest as it is lent; all are made
--   no_parts, parts_lent                  no tables, and tables that are lent again, as for the halves
-- Assumes nothing.
use mathlib.Core.Path.{◌≡◌, refl, sym, ap, ap₂, ◌∙◌, subst, subst⁻¹, subst₂}
use mathlib.Core.List.{List, [], ◌++◌}
use Prim.Native.Nat.{ℕ, zero, suc, ◌+◌, ◌-◌, ◌*◌, ◌/◌, ◌%◌, ◌^◌, ◌≤◌, ◌<◌}
use native.Mathlib.Nat.{zero-mul, one-mul}
use native.Mathlib.Numerals.{add-one}
use native.Mathlib.Decide.{dec_lt}
use native.Mathlib.Omega.{arith}
use borrow.Rule.Slice.PartMut.{put_mid, mid_len}
use lib.Bits.{bit_xor}
use lib.Pow.{low, high}
use lib.ListN.{length, get_or, set, take, drop, length-append, length-take, length-drop, drop_of_length-le}
use lib.Seq.{length-take-le, take_all, take-length, take-nil, take-append_seam, drop-append_seam, take_at, drop_at}
use Rattle.bch.specs.Polynomial.{◌⊕◌}
use Rattle.bch.specs.Powers.{xor_sum}
use Rattle.bch.proofs.Sum.{⊕-zero-right}
use Rattle.bch.proofs.Store.{set_each}
use Rattle.bch.proofs.PowerSum.{xor_sum-same, xor_sum-append}
use Rattle.staircase.proofs.Fill.{front_last}
use Rattle.matrix.proofs.Bits.{bit, bit_above, bit-low}
use Rattle.words_tables.specs.Tables.{sum_at, table_entry, Sums, part_of, MayHalves, table_length, MayParts}

-- ---- a table that is doubled

abbrev pub Doubled : List ℕ → ℕ → ℕ → ℕ → List ℕ → Type 0
Doubled old w x v new =
    (z : ℕ) → (z < w → get_or new z 0 ≡ get_or old z 0) × ((u : ℕ) → z ≡ w + u → u < v → get_or new z 0 ≡ get_or old u 0 ⊕ x)

pub doubled_none : (old : List ℕ) (w x : ℕ) → Doubled old w x 0 old
doubled_none old w x z = (λ h. refl, λ u e h. absurd (omega arith))

pub doubled_more : (old new : List ℕ) (w x v : ℕ) → v < w → w + v < length new → Doubled old w x v new
    → Doubled old w x (v + 1) (set new (w + v) (bit_xor (get_or new v 0) x))
unfolding ◌⊕◌
doubled_more old new w x v h l d =
    set_each (λ z y. (z < w → y ≡ get_or old z 0) × ((u : ℕ) → z ≡ w + u → u < v + 1 → y ≡ get_or old u 0 ⊕ x)) new (w + v) (bit_xor (get_or new v 0) x) l (
      λ k. absurd (omega arith),
      λ u e k. let i : v ≡ u = omega arith in ap (λ (y : ℕ). bit_xor y x) ((d v).0 h) ∙ ap (λ (j : ℕ). get_or old j 0 ⊕ x) i,
    )
    (λ z n. (λ k. (d z).0 k, λ u e k. (d z).1 u e (omega arith)))

-- ---- the table of the sums of entries

pub sums_none : (words : ℕ → ℕ) (table : List ℕ) → 0 < length table → (v : ℕ) → v < 1 → get_or (set table 0 0) v 0 ≡ sum_at words 0 v
unfolding sum_at xor_sum
sums_none words table h = set_each (λ v x. v < 1 → x ≡ 0) table 0 0 h (λ l. refl) (λ v d l. absurd (omega arith))

module _ (words : ℕ → ℕ) (n : ℕ) where
  sum_at-low : (v : ℕ) → v < 2 ^ n → sum_at words n v ≡ sum_at words (suc n) v
  unfolding sum_at xor_sum
  sum_at-low v h =
      sym (ap (λ (z : ℕ). sum_at words n v ⊕ z) (ap (λ (z : ℕ). z * words n) (bit_above v n n h (omega arith)) ∙ zero-mul (words n)) ∙ ⊕-zero-right (sum_at words n v))

  sum_at-high : (v : ℕ) → v < 2 ^ n → sum_at words n v ⊕ words n ≡ sum_at words (suc n) (1 * 2 ^ n + v)
  unfolding sum_at xor_sum
  sum_at-high v h =
      ap₂ ◌⊕◌
      (xor_sum-same n (λ i. v / 2 ^ i % 2 * words i) (λ i. (1 * 2 ^ n + v) / 2 ^ i % 2 * words i)
      (λ i l. ap (λ (z : ℕ). z * words i) (ap (λ (z : ℕ). bit z i) (sym (low 1 n h)) ∙ bit-low (1 * 2 ^ n + v) n i l)))
      (sym (ap (λ (z : ℕ). z % 2 * words n) (high 1 n h) ∙ one-mul (words n)))

  -- w is 2^n
  pub sums_doubled : (old new : List ℕ) (w : ℕ) → w ≡ 2 ^ n → ((v : ℕ) → v < w → get_or old v 0 ≡ sum_at words n v)
      → ((v : ℕ) → v < w → get_or new v 0 ≡ get_or old v 0) → ((v : ℕ) → v < w → get_or new (w + v) 0 ≡ get_or old v 0 ⊕ words n)
      → (v : ℕ) → v < w * 2 → get_or new v 0 ≡ sum_at words (n + 1) v
  sums_doubled old new w is before kept added v h = go (dec_lt v w) ∙ ap (λ (z : ℕ). sum_at words z v) (sym (add-one n))
    where
      go : Dec (v < w) → get_or new v 0 ≡ sum_at words (suc n) v
      go (yes l) = kept v l ∙ before v l ∙ sum_at-low v (omega arith)
      go (no l) =
          let u : ℕ = v - w in
          let e : w + u ≡ v = omega arith in
          let f : 1 * 2 ^ n + u ≡ v = omega arith in
          ap (λ (z : ℕ). get_or new z 0) (sym e) ∙ added u (omega arith) ∙ ap (λ (z : ℕ). z ⊕ words n) (before u (omega arith))
          ∙ sum_at-high u (omega arith) ∙ ap (sum_at words (suc n)) f

-- entry s of table j
pub table_is : (entries : ℕ → ℕ) (j s : ℕ) → s < 256 → sum_at (λ i. entries (8 * j + i)) 8 s ≡ table_entry entries (256 * j + s)
unfolding table_entry
table_is entries j s h =
    let q : (256 * j + s) / 256 ≡ j = omega arith in
    let m : (256 * j + s) % 256 ≡ s = omega arith in
    sym (ap₂ (λ (y z : ℕ). sum_at (λ i. entries (8 * y + i)) 8 z) q m)

-- ---- what a byte names

pub sum_of_eights : (n : ℕ) (f : ℕ → ℕ) → xor_sum n (λ j. xor_sum 8 (λ i. f (8 * j + i))) ≡ xor_sum (8 * n) f
unfolding xor_sum
sum_of_eights zero f = refl
sum_of_eights (suc n) f =
    let e : 8 * n + 8 ≡ 8 * suc n = omega arith in
    ap (λ (z : ℕ). z ⊕ xor_sum 8 (λ i. f (8 * n + i))) (sum_of_eights n f) ∙ sym (xor_sum-append (8 * n) 8 f) ∙ ap (λ (z : ℕ). xor_sum z f) e

-- the sum of the entries of `part` at the ones of byte x, which is entry x of table j
pub byte-sum : (part tables : List ℕ) → Sums part tables → (j x : ℕ) → x < 256 → 256 * j + 256 ≤ length tables
    → get_or tables (256 * j + x) 0 ≡ xor_sum 8 (λ i. x / 2 ^ i % 2 * get_or part (8 * j + i) 0)
unfolding sum_at
byte-sum part tables S j x h l = S.sums (256 * j + x) (omega arith) ∙ sym (table_is (λ k. get_or part k 0) j x h)

-- ---- the tables of two parts

-- one after the other, of equal length
halves_of : (positions : List ℕ) (size : ℕ) (one two : List ℕ) → length one ≡ length two → Sums (part_of positions 0 size) one
    → Sums (part_of positions size size) two → MayHalves positions size (one ++ two)
halves_of positions size one two same S T =
    let h : length (one ++ two) / 2 ≡ length one = omega (arith, length-append one two) in record {
      first = λ l. subst⁻¹ (Sums (part_of positions 0 size)) (ap (λ (k : ℕ). take k (one ++ two)) h ∙ take-append_seam one two) S;
      second =
          λ l. subst⁻¹ (Sums (part_of positions size size))
          (ap (λ (k : ℕ). take k (drop k (one ++ two))) h ∙ ap₂ take same (drop-append_seam one two) ∙ take-length two) T;
    }

-- the first half came back as `one`, and the second is lent next
module _ (positions tables one : List ℕ) (size : ℕ) (fits : 2 * size ≤ length positions) (long : length tables ≡ 2 * (256 * ((size + 7) / 8)))
    (S : Sums (take (size - 0) positions) one) where
  abbrev half : ℕ
  half = length tables / 2

  abbrev rest : List ℕ
  rest = drop (half - 0) tables

  one_long : length one ≡ half
  one_long = omega (arith, S.long, length-take-le (size - 0) positions (omega arith), long)

  rest-is : length rest ≡ half
  rest-is = length-drop (half - 0) tables ∙ omega (arith, long)

  pub rest-long : length (take (2 * half - half) (drop half (one ++ rest))) ≡ 256 * ((size + 7) / 8)
  rest-long = mid_len half (2 * half) (one ++ rest) (omega (arith, length-append one rest, one_long, rest-is)) ∙ omega (arith, long)

  pub halves-made : (two : List ℕ) → Sums (take (2 * size - size) (drop size positions)) two
      → MayHalves positions size (put_mid half (2 * half - half) (one ++ rest) two) × (length (put_mid half (2 * half - half) (one ++ rest) two) ≡ length tables)
  halves-made two T =
      let d : size - 0 ≡ size = omega arith in
      let e : 2 * size - size ≡ size = omega arith in
      let two-long : length two ≡ half = omega (arith, T.long, mid_len size (2 * size) positions fits, long) in
      let whole : put_mid half (2 * half - half) (one ++ rest) two ≡ one ++ two =
      front_last one rest two half (2 * half - half) one_long (omega (arith, rest-is)) in (
        subst⁻¹ (MayHalves positions size) whole
            (halves_of positions size one two (omega (arith, one_long, two-long)) (subst (λ (n : ℕ). Sums (take n positions) one) d S)
            (subst (λ (n : ℕ). Sums (take n (drop size positions)) two) e T)),
        ap length whole ∙ omega (arith, length-append one two, one_long, two-long, long),
      )

pub no_halves : (positions : List ℕ) (size : ℕ) (tables : List ℕ) → length tables ≡ 0 → MayHalves positions size tables
no_halves positions size tables none =
    let few : (k from : ℕ) → length (take k (drop from tables)) ≤ 0 = λ k from. omega (arith, length-take k (drop from tables), length-drop from tables) in
    record { first = λ h. absurd (omega (arith, h, few (length tables / 2) 0)); second = λ h. absurd (omega (arith, h, few (length tables / 2) (length tables / 2))) }

-- made in a part of an array, and lent again
pub halves_lent : (positions made rest : List ℕ) (n size due : ℕ) → MayHalves positions n made → n ≡ size → length made ≡ due
    → MayHalves positions size (take (due - 0) (drop 0 (made ++ rest)))
halves_lent positions made rest n size due H e long =
    let d : length made ≡ due - 0 = omega arith in
    subst⁻¹ (MayHalves positions size) (take_at made rest (due - 0) d) (subst (λ (k : ℕ). MayHalves positions k made) e H)

-- ---- the tables of four parts

pub no_part : (l : List ℕ) (from n : ℕ) → length l ≡ 0 → [] ≡ part_of l from n
no_part l from n e = sym (ap (take n) (drop_of_length-le l {i = from} (omega arith)) ∙ take-nil n)

-- the tables of the blocks came back as `one`, and those of the redundancy are lent next; b and e entries
module _ (positions tables one : List ℕ) (size r b e : ℕ) (long : length tables ≡ 2 * table_length size + 2 * table_length r) (eb : b ≡ 2 * table_length size)
    (ee : e ≡ 2 * table_length r) (kept : length one ≡ length (take (b - 0) tables)) where
  abbrev others : List ℕ
  others = drop (b - 0) tables

  one_is : length one ≡ b
  one_is = kept ∙ omega (arith, length-take-le (b - 0) tables (omega arith))

  others-long : length others ≡ e
  others-long = length-drop (b - 0) tables ∙ omega arith

  pub parts_rest : length (take (b + e - b) (drop b (one ++ drop (b - 0) tables))) ≡ e
  parts_rest = mid_len b (b + e) (one ++ others) (omega (arith, length-append one others, one_is, others-long)) ∙ omega arith

  pub parts_made : (two : List ℕ) → MayHalves positions size one → MayHalves (take (2 * size + 2 * r - 2 * size) (drop (2 * size) positions)) r two
      → length two ≡ length (take (b + e - b) (drop b (one ++ drop (b - 0) tables)))
      → MayParts positions size r (put_mid b (b + e - b) (one ++ drop (b - 0) tables) two)
      × (length (put_mid b (b + e - b) (one ++ drop (b - 0) tables) two) ≡ length tables)
  parts_made two H K back =
      let n : 2 * size + 2 * r - 2 * size ≡ 2 * r = omega arith in
      let two_is : length two ≡ e = back ∙ parts_rest in
      let first : length one ≡ 2 * table_length size = one_is ∙ eb in
      let whole : put_mid b (b + e - b) (one ++ others) two ≡ one ++ two = front_last one others two b (b + e - b) one_is (omega (arith, others-long)) in
      let all : length (one ++ two) ≡ length tables = omega (arith, length-append one two, one_is, two_is) in (
        subst⁻¹ (MayParts positions size r) whole
            (record {
              long = λ h. all ∙ long;
              blocks = subst⁻¹ (MayHalves positions size) (take_at one two (2 * table_length size) first) H;
              ends =
                  subst₂ (λ (k : ℕ) (t : List ℕ). MayHalves (take k (drop (2 * size) positions)) r t) n
                  (sym (ap (take (2 * table_length r)) (drop_at one two (2 * table_length size) first)
                  ∙ take_all (2 * table_length r) two (omega (arith, two_is)))) K;
            }),
        ap length whole ∙ all,
      )

pub no_parts : (positions : List ℕ) (size r : ℕ) (tables : List ℕ) → length tables ≡ 0 → MayParts positions size r tables
no_parts positions size r tables none =
    let few : (k from : ℕ) → length (part_of tables from k) ≡ 0 = λ k from. omega (arith, length-take k (drop from tables), length-drop from tables) in
    record {
      long = λ h. absurd (omega arith);
      blocks = no_halves positions size (part_of tables 0 (2 * table_length size)) (few (2 * table_length size) 0);
      ends =
          no_halves (part_of positions (2 * size) (2 * r)) r (part_of tables (2 * table_length size) (2 * table_length r))
          (few (2 * table_length r) (2 * table_length size));
    }

pub parts_lent : (positions made rest : List ℕ) (n k size r due : ℕ) → MayParts positions n k made → n ≡ size → k ≡ r → length made ≡ due
    → MayParts positions size r (take (due - 0) (drop 0 (made ++ rest)))
parts_lent positions made rest n k size r due P e f long =
    let d : length made ≡ due - 0 = omega arith in
    subst⁻¹ (MayParts positions size r) (take_at made rest (due - 0) d) (subst₂ (λ (a b : ℕ). MayParts positions a b made) e f P)
