-- The steps of elimination as code makes them: entries of what a step leaves, from those that it found.
--   reached-same      only the entries below n count
--   row_added         a row is added to another
--   rows_exchanged    two rows change places
--   rows-cleared      each row but lo to lo + h takes the sum of the rows lo to lo + h at which it has ones, and the columns are the identity's
--   window            a sum over a window
--   table_first, table_more   the sums of rows that a table holds by the digits of its index
-- Assumes nothing.
use mathlib.Core.Path.{◌≡◌, refl, sym, ap, ap₂, ◌∙◌, subst, fun_ext}
use mathlib.Core.Bool.{Bool, true, false, cond}
use mathlib.Core.Logic.{◌≢◌}
use Prim.Native.Nat.{ℕ, zero, suc, ◌+◌, ◌-◌, ◌*◌, ◌/◌, ◌%◌, ◌^◌, ◌≤◌, ◌<◌, zero-le, suc-le-suc}
use native.Mathlib.Nat.{mul-zero, zero-mul, one-mul, zero-add, zero-div}
use native.Mathlib.Decide.{ℕ_discrete}
use native.Mathlib.Omega.{arith}
use lib.Dec.{eqb, ltb}
use lib.Pow.{field, mod-mod-pow, low, high}
use borrow.Author.Tests.{eq-eqb, ne_eqb, lt-ltb, le-ltb}
use Rattle.staircase.specs.Lists.{bit_sum, sum_bits}
use Rattle.staircase.specs.System.{product, identity}
use Rattle.staircase.specs.Square.{BitMatrix, digit, Reached, Units, from_to, cleared_entry}
use Rattle.staircase.proofs.Matrix.{bit_sum-zero, zero-bit_sum, sum_bits-lt, sum_bits-same, sum_bits-zero, sum_bits_one}
use Rattle.staircase.proofs.Columns.{sum_bits_last, sum_bits-tail}
use Rattle.staircase.proofs.Elimination.{plus, combined, exchanged, clearing, clearing_bit, clearing_stay, cleared}

-- ---- only the entries below n count

pub reached-same : (n : ℕ) (a u v u₂ v₂ : ℕ → ℕ → ℕ) → ((i j : ℕ) → i < n → j < n → u i j ≡ u₂ i j) → ((i j : ℕ) → i < n → j < n → v i j ≡ v₂ i j)
    → Reached n a u v → Reached n a u₂ v₂
unfolding product
reached-same n a u v u₂ v₂ hu hv k = record {
  rows = λ i j hi hj. sym (hu i j hi hj) ∙ k.rows i j hi hj ∙ sum_bits-same n (λ q. v i q * a q j) (λ q. v₂ i q * a q j) (λ q m. ap (λ (z : ℕ). z * a q j) (hv i q hi m));
  kernel = λ x hx z. k.kernel x hx (λ i l. sum_bits-same n (λ j. u i j * x j) (λ j. u₂ i j * x j) (λ j m. ap (λ (w : ℕ). w * x j) (hu i j l m)) ∙ z i l);
}

-- ---- sums over a window

front : (lo h : ℕ) (f : ℕ → ℕ) → ((k : ℕ) → k < lo → f k ≡ 0) → sum_bits (lo + h) f ≡ sum_bits h (λ q. f (lo + q))
unfolding sum_bits
front zero h f z = ap₂ (λ (m : ℕ) (g : ℕ → ℕ). sum_bits m g) (zero-add h) (fun_ext (λ q. ap f (sym (zero-add q))))
front (suc lo) h f z =
    let e : suc lo + h ≡ suc (lo + h) = omega arith in
    ap (λ (m : ℕ). sum_bits m f) e
    ∙ ap₂ bit_sum (z zero (suc-le-suc zero-le)) (front lo h (λ k. f (suc k)) (λ k l. z (suc k) (suc-le-suc l)))
    ∙ zero-bit_sum (sum_bits h (λ q. f (suc (lo + q)))) (sum_bits-lt h (λ q. f (suc (lo + q))))
    ∙ sum_bits-same h (λ q. f (suc (lo + q))) (λ q. f (suc lo + q)) (λ q m. ap f (omega arith))

pub window : (n lo h : ℕ) (f : ℕ → ℕ) → lo + h ≤ n → ((k : ℕ) → k < lo → f k ≡ 0) → ((k : ℕ) → lo + h ≤ k → k < n → f k ≡ 0)
    → sum_bits n f ≡ sum_bits h (λ q. f (lo + q))
window n lo h f room before after = sum_bits-tail (lo + h) n f room after ∙ front lo h f before

-- ---- a row is added to another

single : ℕ → ℕ → ℕ → ℕ → ℕ
single to from i q = cond (eqb i to) (identity q from) 0

module _ (n : ℕ) (a u v u₂ v₂ : ℕ → ℕ → ℕ) (ha : BitMatrix a) (hu : BitMatrix u) (hv : BitMatrix v) where
  module _ (to from : ℕ) (hto : to < n) (hfrom : from < n) (apart : to ≢ from) where
    single_bit : BitMatrix (single to from)
    unfolding single
    single_bit i q = go (eqb i to) (eqb q from)
      where
        go : (y z : Bool) → cond y (cond z 1 0) 0 < 2
        go true true = omega arith
        go true false = omega arith
        go false z = omega arith

    single_stay : (i q s : ℕ) → i < n → q < n → s < n → single to from i q * single to from q s ≡ 0
    unfolding single
    single_stay i q s hi hq hs = go (ℕ_discrete q from)
      where
        go : Dec (q ≡ from) → cond (eqb i to) (identity q from) 0 * cond (eqb q to) (identity s from) 0 ≡ 0
        go (yes e) =
            ap (λ (z : Bool). cond (eqb i to) (identity q from) 0 * cond z (identity s from) 0) (ne_eqb q to (λ d. apart (sym d ∙ e)))
            ∙ mul-zero (cond (eqb i to) (identity q from) 0)
        go (no d) = ap (λ (z : ℕ). z * cond (eqb q to) (identity s from) 0) (none (eqb i to)) ∙ zero-mul (cond (eqb q to) (identity s from) 0)
          where
            none : (y : Bool) → cond y (identity q from) 0 ≡ 0
            none true = ap (λ (z : Bool). cond z 1 0) (ne_eqb q from d)
            none false = refl

    -- what is added to row i
    single_sum : (m : ℕ → ℕ → ℕ) → BitMatrix m → (i j : ℕ) → product n (single to from) m i j ≡ cond (eqb i to) (m from j) 0
    unfolding product single
    single_sum m hm i j = go (eqb i to)
      where
        go : (y : Bool) → sum_bits n (λ q. cond y (identity q from) 0 * m q j) ≡ cond y (m from j) 0
        go true =
            sum_bits_one n (λ q. identity q from * m q j) from hfrom (subst (λ (z : ℕ). z < 2) (sym here) (hm from j))
            (λ q l d. ap (λ (z : Bool). cond z 1 0 * m q j) (ne_eqb q from d) ∙ zero-mul (m q j))
            ∙ here
          where
            here : identity from from * m from j ≡ m from j
            here = ap (λ (z : Bool). cond z 1 0 * m from j) (eq-eqb from from refl) ∙ one-mul (m from j)
        go false = sum_bits-zero n (λ q. 0 * m q j) (λ q l. zero-mul (m q j))

    added : (m : ℕ → ℕ → ℕ) → BitMatrix m → (i j : ℕ) → plus n (single to from) m i j ≡ cond (eqb i to) (bit_sum (m i j) (m from j)) (m i j)
    added m hm i j = ap (bit_sum (m i j)) (single_sum m hm i j) ∙ go (eqb i to)
      where
        go : (y : Bool) → bit_sum (m i j) (cond y (m from j) 0) ≡ cond y (bit_sum (m i j) (m from j)) (m i j)
        go true = refl
        go false = bit_sum-zero (m i j) (hm i j)

    pub row_added : ((i j : ℕ) → i < n → j < n → u₂ i j ≡ cond (eqb i to) (bit_sum (u i j) (u from j)) (u i j))
        → ((i j : ℕ) → i < n → j < n → v₂ i j ≡ cond (eqb i to) (bit_sum (v i j) (v from j)) (v i j)) → Reached n a u v → Reached n a u₂ v₂
    row_added eu ev k =
        reached-same n a (plus n (single to from) u) (plus n (single to from) v) u₂ v₂
        (λ i j hi hj. added u hu i j ∙ sym (eu i j hi hj)) (λ i j hi hj. added v hv i j ∙ sym (ev i j hi hj))
        (combined n a u v (single to from) ha hu hv single_bit single_stay k)

  -- ---- two rows change places

  pub rows_exchanged : (to : ℕ → ℕ) → ((i : ℕ) → i < n → to i < n) → ((i : ℕ) → i < n → to (to i) ≡ i)
      → ((i j : ℕ) → i < n → j < n → u₂ i j ≡ u (to i) j) → ((i j : ℕ) → i < n → j < n → v₂ i j ≡ v (to i) j) → Reached n a u v → Reached n a u₂ v₂
  rows_exchanged to below back eu ev k =
      reached-same n a (λ i j. u (to i) j) (λ i j. v (to i) j) u₂ v₂ (λ i j hi hj. sym (eu i j hi hj)) (λ i j hi hj. sym (ev i j hi hj))
      (exchanged n a u v to to below (λ i l. (below i l, back i l)) k)

  -- ---- the columns lo to lo + h are cleared

  module _ (lo h : ℕ) (room : lo + h ≤ n) where
    abbrev inside : ℕ → Bool
    inside q = from_to lo h q

    in_within : (q : ℕ) → lo ≤ q → q < lo + h → inside q ≡ true
    unfolding from_to
    in_within q l m = ap₂ (λ (y z : Bool). cond y false z) (le-ltb q lo l) (lt-ltb q (lo + h) m)

    in_before : (q : ℕ) → q < lo → inside q ≡ false
    unfolding from_to
    in_before q l = ap (λ (y : Bool). cond y false (ltb q (lo + h))) (lt-ltb q lo l)

    in_after : (q : ℕ) → lo + h ≤ q → inside q ≡ false
    unfolding from_to
    in_after q l = ap₂ (λ (y z : Bool). cond y false z) (le-ltb q lo (omega arith)) (le-ltb q (lo + h) l)

    -- what row i takes
    taken : (m : ℕ → ℕ → ℕ) → (i j : ℕ) → product n (clearing inside u) m i j ≡ cond (inside i) 0 (sum_bits h (λ q. u i (lo + q) * m (lo + q) j))
    unfolding product
    taken m i j =
        window n lo h (λ q. clearing inside u i q * m q j) room
        (λ q l. ap (λ (y : Bool). cond y (cond (inside i) 0 (u i q)) 0 * m q j) (in_before q l) ∙ zero-mul (m q j))
        (λ q l l₂. ap (λ (y : Bool). cond y (cond (inside i) 0 (u i q)) 0 * m q j) (in_after q l) ∙ zero-mul (m q j))
        ∙ sum_bits-same h (λ q. clearing inside u i (lo + q) * m (lo + q) j) (λ q. cond (inside i) 0 (u i (lo + q)) * m (lo + q) j)
        (λ q l. ap (λ (y : Bool). cond y (cond (inside i) 0 (u i (lo + q))) 0 * m (lo + q) j) (in_within (lo + q) (omega arith) (omega arith)))
        ∙ go (inside i)
      where
        go : (y : Bool) → sum_bits h (λ q. cond y 0 (u i (lo + q)) * m (lo + q) j) ≡ cond y 0 (sum_bits h (λ q. u i (lo + q) * m (lo + q) j))
        go true = sum_bits-zero h (λ q. 0 * m (lo + q) j) (λ q l. zero-mul (m (lo + q) j))
        go false = refl

    entry-is : (m : ℕ → ℕ → ℕ) → BitMatrix m → (i j : ℕ) → plus n (clearing inside u) m i j ≡ cleared_entry lo h u m i j
    unfolding cleared_entry
    entry-is m hm i j = ap (bit_sum (m i j)) (taken m i j) ∙ go (inside i)
      where
        go : (y : Bool) → bit_sum (m i j) (cond y 0 (sum_bits h (λ q. u i (lo + q) * m (lo + q) j)))
            ≡ cond y (m i j) (bit_sum (m i j) (sum_bits h (λ q. u i (lo + q) * m (lo + q) j)))
        go true = bit_sum-zero (m i j) (hm i j)
        go false = refl

    module _ (units : Units n lo u) (own : (i j : ℕ) → lo ≤ i → i < lo + h → lo ≤ j → j < lo + h → u i j ≡ identity i j)
        (eu : (i j : ℕ) → i < n → j < n → u₂ i j ≡ cleared_entry lo h u u i j) (ev : (i j : ℕ) → i < n → j < n → v₂ i j ≡ cleared_entry lo h u v i j) where
      pub rows-cleared : Reached n a u v → Reached n a u₂ v₂
      rows-cleared k =
          reached-same n a (plus n (clearing inside u) u) (plus n (clearing inside u) v) u₂ v₂
          (λ i j hi hj. entry-is u hu i j ∙ sym (eu i j hi hj)) (λ i j hi hj. entry-is v hv i j ∙ sym (ev i j hi hj))
          (combined n a u v (clearing inside u) ha hu hv
          (clearing_bit n lo (lo + h) u inside hu room in_within in_before in_after units own)
          (λ i q s hi hq hs. clearing_stay n lo (lo + h) u inside hu room in_within in_before in_after units own i q s) k)

      pub units-cleared : Units n (lo + h) u₂
      units-cleared i j hi hj =
          eu i j hi (omega (arith, hj, room)) ∙ sym (entry-is u hu i j) ∙ cleared n lo (lo + h) u inside hu room in_within in_before in_after units own i j hi hj

-- ---- the table: index x holds the sum of the rows at which x has ones

pub table_first : (h : ℕ) (m : ℕ → ℕ) → sum_bits h (λ q. digit 0 q * m q) ≡ 0
table_first h m = sum_bits-zero h (λ q. digit 0 q * m q) (λ q l. ap (λ (z : ℕ). z % 2 * m q) (zero-div (2 ^ q)) ∙ zero-mul (m q))

pub digit_low : (x d r : ℕ) → digit (x % 2 ^ (suc d + r)) r ≡ digit x r
digit_low x d r =
    ap (λ (z : ℕ). z % 2) (field x (suc d) r)
    ∙ ap (λ (z : ℕ). x / 2 ^ r % 2 ^ z % 2) (omega arith)
    ∙ mod-mod-pow (x / 2 ^ r) d 1

-- index 2^h + x is index x and row h
pub table_more : (h x : ℕ) (m : ℕ → ℕ) → x < 2 ^ h → m h < 2
    → sum_bits (suc h) (λ q. digit (1 * 2 ^ h + x) q * m q) ≡ bit_sum (sum_bits h (λ q. digit x q * m q)) (m h)
table_more h x m l b =
    sum_bits_last h (λ q. digit (1 * 2 ^ h + x) q * m q)
    ∙ ap₂ bit_sum
    (sum_bits-same h (λ q. digit (1 * 2 ^ h + x) q * m q) (λ q. digit x q * m q) (λ q k. ap (λ (z : ℕ). z * m q) (
    let d : ℕ = h - q - 1 in
    let e : h ≡ suc d + q = omega arith in
    sym (digit_low (1 * 2 ^ h + x) d q) ∙ ap (λ (z : ℕ). digit ((1 * 2 ^ h + x) % 2 ^ z) q) (sym e) ∙ ap (λ (z : ℕ). digit z q) (low 1 h l))))
    (ap (λ (z : ℕ). z % 2 * m h) (high 1 h l) ∙ one-mul (m h))
