-- The tables of a code, one after the other.
--   values-written   the values of the positions, written before other entries
--   tables-made      all of them
--   first-long, behind-long, tables-whole   the powers and what stands behind them
-- Assumes nothing.
use mathlib.Core.Path.{◌≡◌, sym, ap, ◌∙◌, subst, subst⁻¹}
use mathlib.Core.List.{List, ◌++◌}
use Prim.Native.Nat.{ℕ, ◌+◌, ◌-◌, ◌*◌}
use native.Mathlib.Omega.{arith}
use lib.ListN.{length, take, drop, length-append, length-drop}
use lib.Seq.{length-take-le, length_front, take_at, drop_at}
use Rattle.bch.specs.Code.{generator}
use Rattle.bch.specs.Powers.{PositionPowers}
use Rattle.bch.specs.Locator.{FieldTables, SyndromeTable}
use Rattle.staircase.proofs.Fill.{front_last}
use Rattle.decoder_locator.specs.Located.{SumTable, Words, LocatorTables}
use Rattle.decoder_tables.specs.Sizes.{WordSizes}

-- the values of the positions, written before 128 other entries
pub values-written : (m n : ℕ) (xs ys : List ℕ) → SyndromeTable m ys → length ys ≡ length (take (n - 0) xs) → length xs ≡ n + 128
    → SyndromeTable m (take n (ys ++ drop (n - 0) xs)) × (length (ys ++ drop (n - 0) xs) ≡ n + 128)
values-written m n xs ys s l k =
    let e : length ys ≡ n = omega (arith, l, length-take-le (n - 0) xs (omega (arith, k))) in
    (subst⁻¹ (SyndromeTable m) (take_at ys (drop (n - 0) xs) n e) s, length_front xs ys (n - 0) l ∙ k)

module _ (m t n : ℕ) (W : WordSizes m t n) (first values field tables : List ℕ) (p : PositionPowers (generator m t) (m * t) first) (l : length first ≡ n)
    (s : SyndromeTable m (take n values)) (v : SumTable m (m * t) (drop n values)) (k : length values ≡ n + 128) (f : FieldTables m field) where
  tables-of : LocatorTables m t first values field
  tables-of =
      let w : Words m t first =
      record {
        m-low = W.m-low;
        m-high = W.m-high;
        t-low = W.t-low;
        t-high = W.t-high;
        fits = W.fits;
        position = p;
        n_fits = omega (arith, l, W.n_high);
      }
      in
      record {
        words = w;
        as_long = k ∙ ap (λ (z : ℕ). z + 128) (sym l);
        syndrome = subst (λ (z : ℕ). SyndromeTable m (take z values)) (sym l) s;
        sums = subst (λ (z : ℕ). SumTable m (m * t) (drop z values)) (sym l) v;
        tables = f;
      }

  pub tables-made : tables ≡ first ++ values → (length tables ≡ n + (n + 128)) × LocatorTables m t (take n tables) (drop n tables) field
  tables-made e = (
    ap length e ∙ omega (arith, length-append first values, l, k),
    subst⁻¹ (λ (z : List ℕ). LocatorTables m t (take n z) (drop n z) field) e
        (subst⁻¹ (λ (z : List ℕ). LocatorTables m t z (drop n (first ++ values)) field) (take_at first values n l)
        (subst⁻¹ (λ (z : List ℕ). LocatorTables m t first z field) (drop_at first values n l) tables-of)),
  )

-- the powers came back in front of n + 128 entries, which are lent next
module _ (n : ℕ) (T first : List ℕ) (long : length T ≡ n + (n + 128)) (same : length first ≡ length (take (n - 0) T)) where
  pub first-long : length first ≡ n
  first-long = omega (arith, same, length-take-le (n - 0) T (omega (arith, long)), long)

  pub behind-long : length (take (length T - n) (drop n (first ++ drop (n - 0) T))) ≡ n + 128
  behind-long =
      length-take-le (length T - n) (drop n (first ++ drop (n - 0) T))
      (omega (arith, length-drop n (first ++ drop (n - 0) T), length-append first (drop (n - 0) T), length-drop (n - 0) T, first-long, long))
      ∙ omega (arith, long)

  pub tables-whole : (values : List ℕ) → take n (first ++ drop (n - 0) T) ++ (values ++ drop (length T - n) (drop n (first ++ drop (n - 0) T))) ≡ first ++ values
  tables-whole values = front_last first (drop (n - 0) T) values n (length T - n) first-long (omega (arith, length-drop (n - 0) T, long))
