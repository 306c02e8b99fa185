-- Digits written into a buffer, and rule 10 over the first columns of rows.
--   digits_none, digits_more           no digit, and one more
--   Last, last_none, last_more, last_all   the last digits are written: none, one more, all
--   rows_more             the digits of one more row
--   Good, good_next       the information of the first rows is bits
--   good_all, row_refused   the rule accepts, or refuses at a row
-- Assumes nothing.
use mathlib.Core.Path.{◌≡◌, refl, sym, ap, ◌∙◌, subst}
use mathlib.Core.Bool.{Bool, true, false, cond}
use mathlib.Core.Logic.{◌≢◌}
use mathlib.Core.List.{List}
use Prim.Native.Nat.{ℕ, suc, ◌+◌, ◌-◌, ◌*◌, ◌/◌, ◌%◌, ◌^◌, ◌≤◌, ◌<◌}
use native.Mathlib.Nat.{add-mul, zero-add, sub_self, div-one, div-div-eq-div-mul, pow-suc}
use native.Mathlib.Decide.{dec_lt, ℕ_discrete}
use native.Mathlib.Omega.{arith}
use lib.Arith.{digits_mod}
use lib.Dec.{ltb}
use lib.ListN.{length, get_or, take, drop, set, length-set}
use lib.Seq.{get_or-set_same, get_or-set_other}
use borrow.Author.Tests.{lt-ltb, le-ltb, ltb-false}
use Rattle.bch.specs.Polynomial.{Bits}
use Rattle.staircase.specs.Lists.{first_where}
use Rattle.staircase.specs.Rules.{refuse_first, bit_rule}
use Rattle.staircase.specs.Rules.Verdict.{accepted, refused}
use Rattle.staircase.proofs.Bounds.{stretch-end}
use Rattle.staircase.proofs.Rules.{refuse_first-accepted, refuse_first-refused, refuse_first-at, refuse_first-past, bytes_bits}
use Rattle.staircase.proofs.Search.{first_where-before, first_where_holds}
use Rattle.words_blocks.proofs.Sums.{part_length, part_at}
use Rattle.original_encoder.specs.Written.{digit, DigitsAt, RowsAt, width_bits}

-- ---- digits

pub digits_none : (r from x : ℕ) (l : List ℕ) → DigitsAt 0 r from x l l
digits_none r from x l = record { long = refl; before = λ k h. refl; behind = λ k h. refl; digits = λ j h. absurd (omega (arith, h)) }

pub digits_more : (n r from x : ℕ) (l cur : List ℕ) → DigitsAt n r from x l cur → from + n < length cur → DigitsAt (n + 1) r from x l (set cur (from + n) (x / 2 ^ (r - 1 - n) % 2))
digits_more n r from x l cur D h =
    record {
      long = length-set cur (from + n) (digit r x n) ∙ D.long;
      before = λ k hk. get_or-set_other cur (from + n) k (digit r x n) 0 (λ e. omega (arith, hk, e)) ∙ D.before k hk;
      behind = λ k hk. get_or-set_other cur (from + n) k (digit r x n) 0 (λ e. omega (arith, hk, e)) ∙ D.behind k (omega (arith, hk));
      digits = λ j hj. at j hj (ℕ_discrete j n);
    }
  where
    at : (j : ℕ) → j < n + 1 → Dec (j ≡ n) → get_or (set cur (from + n) (digit r x n)) (from + j) 0 ≡ digit r x j
    at j hj (yes e) =
        ap (λ (i : ℕ). get_or (set cur (from + n) (digit r x n)) (from + i) 0) e ∙ get_or-set_same cur (from + n) (digit r x n) 0 h ∙ ap (digit r x) (sym e)
    at j hj (no e) = get_or-set_other cur (from + n) (from + j) (digit r x n) 0 (λ q. e (omega (arith, q))) ∙ D.digits j (omega (arith, hj, e))

-- those from digit j on, and nothing else; x is `rest` without them
pub record Last (j r from x rest : ℕ) (old new : List ℕ) : Type 0 where
  pub rest-is : rest ≡ x / 2 ^ (r - j)
  pub long : length new ≡ length old
  pub before : (k : ℕ) → k < from + j → get_or new k 0 ≡ get_or old k 0
  pub behind : (k : ℕ) → from + r ≤ k → get_or new k 0 ≡ get_or old k 0
  pub digits : (i : ℕ) → j ≤ i → i < r → get_or new (from + i) 0 ≡ digit r x i

pub last_none : (r from x : ℕ) (l : List ℕ) → Last r r from x x l l
last_none r from x l =
    record {
      rest-is = sym (ap (λ (n : ℕ). x / 2 ^ n) (sub_self r) ∙ div-one x);
      long = refl;
      before = λ k h. refl;
      behind = λ k h. refl;
      digits = λ i h g. absurd (omega (arith, h, g));
    }

pub last_more : (j r from x rest : ℕ) (l cur : List ℕ) → Last (suc j) r from x rest l cur → j < r → from + j < length cur
    → Last j r from x (rest / 2) l (set cur (from + j) (rest % 2))
last_more j r from x rest l cur D hr h =
    record {
      rest-is = halved;
      long = length-set cur (from + j) (rest % 2) ∙ D.long;
      before = λ k hk. get_or-set_other cur (from + j) k (rest % 2) 0 (λ e. omega (arith, hk, e)) ∙ D.before k (omega (arith, hk));
      behind = λ k hk. get_or-set_other cur (from + j) k (rest % 2) 0 (λ e. omega (arith, hk, e, hr)) ∙ D.behind k hk;
      digits = λ i hi g. at i hi g (ℕ_discrete i j);
    }
  where
    step : r - j ≡ suc (r - suc j)
    step = omega (arith, hr)

    halved : rest / 2 ≡ x / 2 ^ (r - j)
    halved =
        ap (λ (n : ℕ). n / 2) D.rest-is ∙ div-div-eq-div-mul x (2 ^ (r - suc j)) 2
        ∙ ap (λ (n : ℕ). x / n) (sym (ap (λ (n : ℕ). 2 ^ n) step ∙ pow-suc 2 (r - suc j)))

    here : rest % 2 ≡ digit r x j
    here = ap (λ (n : ℕ). n % 2) (D.rest-is ∙ ap (λ (n : ℕ). x / 2 ^ n) (omega (arith, hr)))

    at : (i : ℕ) → j ≤ i → i < r → Dec (i ≡ j) → get_or (set cur (from + j) (rest % 2)) (from + i) 0 ≡ digit r x i
    at i hi g (yes e) =
        ap (λ (n : ℕ). get_or (set cur (from + j) (rest % 2)) (from + n) 0) e ∙ get_or-set_same cur (from + j) (rest % 2) 0 h ∙ here ∙ ap (digit r x) (sym e)
    at i hi g (no e) = get_or-set_other cur (from + j) (from + i) (rest % 2) 0 (λ q. e (omega (arith, q))) ∙ D.digits i (omega (arith, hi, e)) g

pub last_all : (r from x rest : ℕ) (l cur : List ℕ) → Last 0 r from x rest l cur → DigitsAt r r from x l cur
last_all r from x rest l cur D =
    record { long = D.long; before = λ k h. D.before k (omega (arith, h)); behind = D.behind; digits = λ j h. D.digits j (omega arith) h }

module _ (size r at : ℕ) (fits : r ≤ size) (x : ℕ → ℕ) (l : List ℕ) where
  pub rows_more : (n : ℕ) (cur new : List ℕ) → RowsAt n size r at x l cur → DigitsAt r r (at + n * size + (size - r)) (x n) cur new → RowsAt (n + 1) size r at x l new
  rows_more n cur new R D =
      record {
        long = D.long ∙ R.long;
        before = λ k h. D.before k (omega (arith, h)) ∙ R.before k h;
        behind = λ k h. D.behind k (omega (arith, h, next, fits)) ∙ R.behind k (omega (arith, h, next));
        info = λ a j ha hj. info a j ha hj (dec_lt a n);
        digits = λ a j ha hj. digits a j ha hj (dec_lt a n);
      }
    where
      next : (n + 1) * size ≡ n * size + size
      next = add-mul n 1 size ∙ omega arith

      info : (a j : ℕ) → a < n + 1 → j < size - r → Dec (a < n) → get_or new (at + a * size + j) 0 ≡ get_or l (at + a * size + j) 0
      info a j ha hj (yes h) =
          let e = stretch-end a n size h in
          D.before (at + a * size + j) (omega (arith, e, hj)) ∙ R.info a j h hj
      info a j ha hj (no h) =
          let e : a ≡ n = omega (arith, ha, h) in
          let p : at + a * size + j ≡ at + n * size + j = ap (λ (z : ℕ). at + z * size + j) e in
          ap (λ (i : ℕ). get_or new i 0) p ∙ D.before (at + n * size + j) (omega (arith, hj)) ∙ R.behind (at + n * size + j) (omega arith)
          ∙ ap (λ (i : ℕ). get_or l i 0) (sym p)

      digits : (a j : ℕ) → a < n + 1 → j < r → Dec (a < n) → get_or new (at + a * size + (size - r) + j) 0 ≡ digit r (x a) j
      digits a j ha hj (yes h) =
          let e = stretch-end a n size h in
          D.before (at + a * size + (size - r) + j) (omega (arith, e, hj, fits)) ∙ R.digits a j h hj
      digits a j ha hj (no h) =
          let e : a ≡ n = omega (arith, ha, h) in
          ap (λ (z : ℕ). get_or new (at + z * size + (size - r) + j) 0) e ∙ D.digits j hj ∙ ap (λ (z : ℕ). digit r (x z) j) (sym e)

-- ---- rule 10 over the first `width` columns

module _ (size width : ℕ) (pos : 0 < size) (fits : width ≤ size) (rows : ℕ) (l : List ℕ) (long : rows * size ≡ length l) where
  abbrev pub Good : ℕ → Type 0
  Good i = (k : ℕ) → k < i * size → k % size < width → get_or l k 0 < 2

  abbrev judge : ℕ → Bool
  judge k = cond (ltb (k % size) width) (ltb 1 (get_or l k 0)) false

  judge_outside : (k : ℕ) → width ≤ k % size → judge k ≡ false
  judge_outside k h = ap (λ (b : Bool). cond b (ltb 1 (get_or l k 0)) false) (le-ltb (k % size) width h)

  judge_inside : (k : ℕ) → k % size < width → judge k ≡ ltb 1 (get_or l k 0)
  judge_inside k h = ap (λ (b : Bool). cond b (ltb 1 (get_or l k 0)) false) (lt-ltb (k % size) width h)

  judge_good : (k : ℕ) → (k % size < width → get_or l k 0 < 2) → judge k ≡ false
  judge_good k h = go (dec_lt (k % size) width)
    where
      go : Dec (k % size < width) → judge k ≡ false
      go (yes c) = judge_inside k c ∙ le-ltb 1 (get_or l k 0) (let z = h c in omega (arith, z))
      go (no c) = judge_outside k (omega (arith, c))

  pub good_all : Good rows → accepted ≡ width_bits size width l
  unfolding width_bits
  good_all g = sym (refuse_first-accepted 10 0 (length l) judge (λ k h. judge_good k (g k (omega (arith, h, long)))))

  module _ (i : ℕ) (hi : i < rows) (g : Good i) where
    abbrev base : ℕ
    base = i * size

    abbrev part : List ℕ
    part = take (i * size + width - i * size) (drop (i * size) l)

    inside : i * size + width ≤ length l
    inside = let e = stretch-end i rows size hi in omega (arith, e, long, fits)

    part-long : length part ≡ width
    part-long = part_length l base (base + width) width refl inside

    at : (j : ℕ) → j < width → get_or part j 0 ≡ get_or l (base + j) 0
    at j h = part_at l base (base + width) width refl inside j h

    -- a byte of the row
    row_byte : (k : ℕ) → base ≤ k → k < base + size → (j : ℕ) × (k ≡ base + j) × (k % size ≡ j)
    row_byte k low high =
        let j : ℕ = k - base in
        let e : k ≡ base + j = omega (arith, low) in
        (j, e, ap (λ (z : ℕ). z % size) e ∙ digits_mod i (let h : j < size = omega (arith, low, high) in h))

    pub good_next : bit_rule (i * size) (take (i * size + width - i * size) (drop (i * size) l)) ≡ accepted → Good (i + 1)
    good_next e k h c = go (dec_lt k base)
      where
        bits : Bits part
        bits = bytes_bits base part e

        go : Dec (k < base) → get_or l k 0 < 2
        go (yes m) = g k m c
        go (no m) =
            let n : (i + 1) * size ≡ base + size = add-mul i 1 size ∙ omega arith in
            let (j, is, col) = row_byte k (omega (arith, m)) (omega (arith, h, n)) in
            subst (λ (z : ℕ). z < 2) (at j (omega (arith, col, c)) ∙ ap (λ (z : ℕ). get_or l z 0) (sym is)) (bits j)

    pub row_refused : bit_rule (i * size) (take (i * size + width - i * size) (drop (i * size) l)) ≢ accepted
        → bit_rule (i * size) (take (i * size + width - i * size) (drop (i * size) l)) ≡ width_bits size width l
    unfolding bit_rule width_bits
    row_refused ne = go (dec_lt x (length part))
      where
        f : ℕ → Bool
        f j = ltb 1 (get_or part j 0)

        x : ℕ
        x = first_where (length part) f

        earlier : (k : ℕ) → k < base + x → x < width → judge k ≡ false
        earlier k h hx = judge_good k (λ c. byte c (dec_lt k base))
          where
            byte : k % size < width → Dec (k < base) → get_or l k 0 < 2
            byte c (yes m) = g k m c
            byte c (no m) =
                let (j, is, col) = row_byte k (omega (arith, m)) (omega (arith, h, hx, fits)) in
                let z : f j ≡ false = first_where-before (length part) f j (omega (arith, is, h)) in
                let y : get_or part j 0 ≤ 1 = ltb-false 1 (get_or part j 0) z in
                let w : get_or l k 0 ≡ get_or part j 0 = ap (λ (z : ℕ). get_or l z 0) is ∙ sym (at j (omega (arith, col, c))) in
                omega (arith, y, w)

        go : Dec (x < length part) → refuse_first 10 base (length part) f ≡ refuse_first 10 0 (length l) judge
        go (no h) = absurd (ne (sym (refuse_first-past 10 base (length part) f x refl (omega (arith, h)))))
        go (yes h) =
            let hx : x < width = omega (arith, h, part-long) in
            let k : ℕ = base + x in
            let col : k % size ≡ x = digits_mod i (let q : x < size = omega (arith, hx, fits) in q) in
            let hit : judge k ≡ true =
            judge_inside k (omega (arith, col, hx)) ∙ ap (ltb 1) (sym (at x hx)) ∙ first_where_holds (length part) f h in
            sym (refuse_first-at 10 base (length part) f x refl h)
            ∙ ap (refused 10) (sym (zero-add k))
            ∙ refuse_first-refused 10 0 (length l) judge k (omega (arith, hx, inside)) (λ j hj. earlier j hj hx) hit
