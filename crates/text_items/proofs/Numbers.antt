-- Digits and numbers at a position, as the code reads them.
--   digit_at_out, low_read, high_read, digit-read   `digit_at`
--   Digit, digit_at-small, digit_at_big              what its answer says of the byte
--   none_read, zero-read                           `number`, where there is none and where it starts with 0
--   Leading, leading-first .. leading-full         the state of `number` after n digits
-- Assumes nothing.
use Prim.Native.Nat.{ℕ, zero, suc, ◌+◌, ◌-◌, ◌*◌, ◌^◌, ◌≤◌, ◌<◌}
use mathlib.Core.Path.{◌≡◌, refl, sym, ap, ◌∙◌}
use mathlib.Core.Bool.{Bool, true, false}
use mathlib.Core.List.{List}
use native.Mathlib.Omega.{arith}
use native.Mathlib.Nat.{pow-le-pow_right}
use native.Mathlib.Numerals.{add-one}
use borrow.Author.Tests.{le-leb, lt-leb}
use lib.ListN.{length, get_or, drop, get_or-eq_default}
use lib.Seq.{get_or-drop, drop-drop}
use Rattle.text_formats.specs.Format.{is_digit, more, value, num_len}
use Rattle.text_items.specs.Answers.{digit_at, num_at}
use Rattle.std.specs.Prelude.{Some, None}
use Rattle.text_formats.proofs.Walking.{get_d_any, get_d_there, head_at}
use Rattle.text_formats.proofs.Digits.{digit-is, digit-true, more-stop, more-digit, len_none, len_zero, len_more}

-- ---- one digit

digit_low : (c : ℕ) → c < 48 → is_digit c ≡ false
unfolding is_digit
digit_low c h = simp (lt-leb 48 c h)

digit-high : (c : ℕ) → 57 < c → is_digit c ≡ false
unfolding is_digit
digit-high c h = simp (le-leb 48 c (omega arith), lt-leb c 57 h)

digit_at-none : (s : List ℕ) (i : ℕ) → is_digit (get_or s i 256) ≡ false → digit_at s i ≡ 10
unfolding digit_at
digit_at-none s i e = simp e

digit_at-is : (s : List ℕ) (i : ℕ) → 48 ≤ get_or s i 256 → get_or s i 256 ≤ 57 → digit_at s i ≡ get_or s i 256 - 48
unfolding digit_at
digit_at-is s i l h = simp (digit-is (get_or s i 256) l h)

pub digit_at_out : (s : List ℕ) (i : ℕ) → length s ≤ i → 10 ≡ digit_at s i
digit_at_out s i h = sym (digit_at-none s i (rw (get_or-eq_default s 256 h) (digit-high 256 (omega arith))))

-- The code has the byte with the default 0.
module _ (s : List ℕ) (i : ℕ) (h : i < length s) where
  pub low_read : get_or s i 0 < 48 → 10 ≡ digit_at s i
  low_read l = sym (digit_at-none s i (digit_low (get_or s i 256) (rw (get_d_any s i 256 0 h) l)))

  pub high_read : 57 < get_or s i 0 → 10 ≡ digit_at s i
  high_read l = sym (digit_at-none s i (digit-high (get_or s i 256) (rw (get_d_any s i 256 0 h) l)))

  pub digit-read : 48 ≤ get_or s i 0 → get_or s i 0 ≤ 57 → get_or s i 0 - 48 ≡ digit_at s i
  digit-read l k =
      let e = get_d_any s i 256 0 h in
      ap (λ (x : ℕ). x - 48) (sym e) ∙ sym (digit_at-is s i (omega arith) (omega arith))

pub record Digit (s : List ℕ) (i : ℕ) : Type 0 where
  pub within : i < length s
  pub low : 48 ≤ get_or s i 256
  pub high : get_or s i 256 ≤ 57
  pub is : digit_at s i ≡ get_or s i 256 - 48

pub digit_at-small : (s : List ℕ) (i a : ℕ) → a ≡ digit_at s i → a < 10 → Digit s i
digit_at-small s i a ea h = go (is_digit (get_or s i 256)) refl
  where
    go : (b : Bool) → is_digit (get_or s i 256) ≡ b → Digit s i
    go true e =
        let d = digit-true (get_or s i 256) e in
        record { within = get_d_there s i (omega arith); low = d.0; high = d.1; is = digit_at-is s i d.0 d.1 }
    go false e = let f = digit_at-none s i e in absurd (omega arith)

digit_at_big : (s : List ℕ) (i a : ℕ) → a ≡ digit_at s i → 10 ≤ a → is_digit (get_or (drop i s) 0 256) ≡ false
digit_at_big s i a ea h = rw (head_at s i) (go (is_digit (get_or s i 256)) refl)
  where
    go : (b : Bool) → is_digit (get_or s i 256) ≡ b → is_digit (get_or s i 256) ≡ false
    go true e = let d = digit-true (get_or s i 256) e in let f = digit_at-is s i d.0 d.1 in absurd (omega arith)
    go false e = e

-- ---- a number

-- A number of n digits, the value of which is v.
value-at : (s : List ℕ) (at n v : ℕ) → 1 ≤ n → num_len (drop at s) ≡ n → value n (drop at s) ≡ v → Some (v, at + n) ≡ num_at s at
unfolding num_at
value-at s at zero v h e f = absurd (omega arith)
value-at s at (suc n) v h e f = rw (e, f)

-- After n digits, the first of which is not 0: their value is v, and what is left of the number is what is left of the digits.
pub record Leading (s : List ℕ) (at n v : ℕ) : Type 0 where
  pub low : 1 ≤ n
  pub high : n ≤ 4
  pub room : at + n ≤ length s
  pub below : v < 10 ^ n
  pub counted : num_len (drop at s) ≡ n + more (4 - n) (drop (at + n) s)
  pub valued : value n (drop at s) ≡ v

module _ (s : List ℕ) (at a : ℕ) (ea : a ≡ digit_at s at) where
  pub none_read : 10 ≤ a → None ≡ num_at s at
  unfolding num_at
  none_read h = rw (len_none (drop at s) (digit_at_big s at a ea h))

  pub zero-read : a ≡ 0 → Some (0, at + 1) ≡ num_at s at
  zero-read h =
      let d = digit_at-small s at a ea (omega arith) in
      let f : get_or (drop at s) 0 256 ≡ 48 = head_at s at ∙ omega (arith, d.low, d.is) in
      value-at s at 1 0 (omega arith) (len_zero (drop at s) f) (omega arith)

  pub leading_first : a < 10 → (a ≡ 0 → ⊥) → Leading s at 1 a
  leading_first h p =
      let d = digit_at-small s at a ea h in
      let f = head_at s at in
      let m : more 3 (drop 1 (drop at s)) ≡ more (4 - 1) (drop (at + 1) s) = ap (λ (l : List ℕ). more 3 l) (drop-drop 1 at s) in
      let n : num_len (drop at s) ≡ suc (more 3 (drop 1 (drop at s))) = len_more (drop at s) (omega (arith, d.low, d.is)) (omega (arith, d.high)) in
      record {
        low = omega arith;
        high = omega arith;
        room = omega (arith, d.within);
        below = omega arith;
        counted = omega (arith, n, m);
        valued = omega (arith, d.is);
      }

module _ (s : List ℕ) (at n v : ℕ) (R : Leading s at n v) where
  pub leading_small : v < 10000
  leading_small = let p : 10 ^ n ≤ 10 ^ 4 = pow-le-pow_right (omega arith) R.high in omega (arith, R.below)

  module _ (lt : n < 4) (d : ℕ) (ed : d ≡ digit_at s (at + n)) where
    pub leading_stop : 10 ≤ d → Some (v, at + n) ≡ num_at s at
    leading_stop h = value-at s at n v R.low (omega (arith, R.counted, more-stop (4 - n) (drop (at + n) s) (digit_at_big s (at + n) d ed h))) R.valued

    pub leading_next : d < 10 → Leading s at (n + 1) (v * 10 + d)
    leading_next h =
        let D = digit_at-small s (at + n) d ed h in
        let f = head_at s (at + n) in
        let k : 4 - n ≡ suc (4 - (n + 1)) = omega arith in
        let i : at + n + 1 ≡ at + (n + 1) = omega arith in
        let m : more (4 - n) (drop (at + n) s) ≡ suc (more (4 - (n + 1)) (drop (at + (n + 1)) s)) =
        ap (λ (x : ℕ). more x (drop (at + n) s)) k
        ∙ more-digit (4 - (n + 1)) (drop (at + n) s) (omega (arith, D.low)) (omega (arith, D.high))
        ∙ ap (λ (l : List ℕ). suc (more (4 - (n + 1)) l)) (drop-drop 1 (at + n) s ∙ ap (λ (x : ℕ). drop x s) i)
        in
        record {
          low = omega arith;
          high = omega arith;
          room = omega (arith, D.within);
          below = rw (add-one n) (omega (arith, R.below));
          counted = omega (arith, R.counted, m);
          valued = rw (add-one n, R.valued, get_or-drop at s n 256, ← D.is, ed);
        }

  pub leading_full : 4 ≤ n → Some (v, at + 4) ≡ num_at s at
  unfolding more
  leading_full h =
      let z : n ≡ 4 = omega (arith, R.high) in
      let m : more (4 - n) (drop (at + n) s) ≡ 0 = ap (λ (x : ℕ). more (4 - x) (drop (at + n) s)) z in
      ap (λ (k : ℕ). Some (v, at + k)) (sym z) ∙ value-at s at n v R.low (omega (arith, R.counted, m)) R.valued
