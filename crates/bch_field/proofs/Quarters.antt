-- The tables in the quarters of a list, written one after the other.
--   two, three, four            the list after the first two, the first three and all four are written
--   two_length, three-length    its length
--   quarter_length              a part of it that is as long as there are powers
--   four_filled                 the tables are in their quarters
-- Assumes nothing.
use mathlib.Core.Path.{◌≡◌, sym, ◌∙◌, subst⁻¹}
use mathlib.Core.List.{List}
use Prim.Native.Nat.{ℕ, ◌+◌, ◌-◌, ◌*◌, ◌^◌, ◌≤◌}
use native.Mathlib.Omega.{arith}
use borrow.Rule.Slice.PartMut.{put_mid, same_len_mid, mid_len}
use lib.ListN.{length, take, drop}
use Rattle.bch.specs.Field.{power_table}
use Rattle.bch.specs.Locator.{LogTable, HalfTable, CubicTable, FieldTables}
use Rattle.bch.proofs.Store.{part-written, part-before}
use Rattle.bch.proofs.Powers.{powers-length}
use Rattle.bch_field.proofs.Solved.{sizes}

abbrev pub two : ℕ → List ℕ → List ℕ → List ℕ → List ℕ
two q l powers logs = put_mid q (2 * q - q) (put_mid 0 (q - 1 - 0) l powers) logs

abbrev pub three : ℕ → List ℕ → List ℕ → List ℕ → List ℕ → List ℕ
three q l powers logs halves = put_mid (2 * q) (3 * q - 1 - 2 * q) (two q l powers logs) halves

abbrev pub four : ℕ → List ℕ → List ℕ → List ℕ → List ℕ → List ℕ → List ℕ
four q l powers logs halves cubics = put_mid (3 * q) (4 * q - 1 - 3 * q) (three q l powers logs halves) cubics

pub quarter_length : (m a e : ℕ) (xs : List ℕ) → length xs ≡ 4 * 2 ^ m → e ≤ 4 * 2 ^ m → e - a ≡ 2 ^ m - 1 → length (take (e - a) (drop a xs)) ≡ 2 ^ m - 1
quarter_length m a e xs long h w = mid_len a e xs (omega (arith, long, h)) ∙ w

module _ {m : ℕ} (low : 4 ≤ m) (high : m ≤ 10) {powers logs : List ℕ} (powers-are : powers ≡ power_table m (2 ^ m - 1)) (L : LogTable m logs) (l : List ℕ)
    (long : length l ≡ 4 * 2 ^ m) (q : ℕ) (is : q ≡ 2 ^ m) where
  written-length : (a e : ℕ) (xs ys : List ℕ) → length xs ≡ 4 * 2 ^ m → e ≤ 4 * 2 ^ m → length ys ≡ e - a → length (put_mid a (e - a) xs ys) ≡ 4 * 2 ^ m
  written-length a e xs ys h k w = same_len_mid a (e - a) xs ys (w ∙ sym (mid_len a e xs (omega arith))) ∙ h

  powers-long : length powers ≡ 2 ^ m - 1
  powers-long = powers-length m powers powers-are

  abbrev one : List ℕ
  one = put_mid 0 (q - 1 - 0) l powers

  one_length : length one ≡ 4 * 2 ^ m
  one_length = written-length 0 (q - 1) l powers long (omega (arith, sizes m low high, is)) (omega (arith, powers-long, is))

  pub two_length : length (two q l powers logs) ≡ 4 * 2 ^ m
  two_length = written-length q (2 * q) one logs one_length (omega (arith, is)) (omega (arith, L.long, is))

  module _ {halves : List ℕ} (H : HalfTable m halves) where
    pub three-length : length (three q l powers logs halves) ≡ 4 * 2 ^ m
    three-length = written-length (2 * q) (3 * q - 1) (two q l powers logs) halves two_length (omega (arith, is)) (omega (arith, H.long, is))

    module _ {cubics : List ℕ} (C : CubicTable m cubics) where
      -- k entries from b on, before the parts that are written from 2 q and from 3 q on
      before_three : (b k : ℕ) → b + k ≤ 3 * q → take k (drop b (four q l powers logs halves cubics)) ≡ take k (drop b (three q l powers logs halves))
      before_three b k h = part-before b k (3 * q) (three q l powers logs halves) _ h (omega (arith, is, three-length))

      before_two : (b k : ℕ) → b + k ≤ 2 * q → take k (drop b (four q l powers logs halves cubics)) ≡ take k (drop b (two q l powers logs))
      before_two b k h =
          before_three b k (omega (arith, h)) ∙ part-before b k (2 * q) (two q l powers logs) _ h (omega (arith, is, two_length))

      at : (T : List ℕ → Type 0) (k n : ℕ) (x : List ℕ) → take k (drop (n * q) (four q l powers logs halves cubics)) ≡ x → T x
          → T (take k (drop (n * 2 ^ m) (four q l powers logs halves cubics)))
      at T k n x e t = subst⁻¹ (λ (a : ℕ). T (take k (drop (n * a) (four q l powers logs halves cubics)))) (sym is) (subst⁻¹ T e t)

      pub four_filled : FieldTables m (four q l powers logs halves cubics)
      four_filled = record {
        long = written-length (3 * q) (4 * q - 1) (three q l powers logs halves) cubics three-length (omega (arith, is)) (omega (arith, C.long, is));
        powers =
            before_two 0 (2 ^ m - 1) (omega (arith, is)) ∙ part-before 0 (2 ^ m - 1) q one _ (omega (arith, is)) (omega (arith, is, one_length))
            ∙ part-written 0 (2 ^ m - 1) l powers _ (omega arith) powers-long ∙ powers-are;
        logs =
            subst⁻¹ (λ (a : ℕ). LogTable m (take (2 ^ m) (drop a (four q l powers logs halves cubics)))) (sym is)
            (subst⁻¹ (LogTable m)
            (before_two q (2 ^ m) (omega (arith, is)) ∙ part-written q (2 ^ m) one logs _ (omega (arith, is, one_length)) L.long) L);
        halves =
            at (HalfTable m) (2 ^ m - 1) 2 halves
            (before_three (2 * q) (2 ^ m - 1) (omega (arith, is)) ∙ part-written (2 * q) (2 ^ m - 1) (two q l powers logs) halves _ (omega (arith, is, two_length)) H.long) H;
        cubics =
            at (CubicTable m) (2 ^ m - 1) 3 cubics
            (part-written (3 * q) (2 ^ m - 1) (three q l powers logs halves) cubics _ (omega (arith, is, three-length)) C.long) C;
      }
