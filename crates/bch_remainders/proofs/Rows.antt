-- A block row by row: row j of rows of w bits is the stretch of w bits from j * w on.
--   row_end           the stretch of a row ends within the block
--   row-length        it has w bits
--   row_at            bit a of the row at `from` is bit from + a of the block
--   row-bits          the entries of a stretch of bits are bits
--   column-more       one row more in the sum over a column
-- Assumes nothing.
use mathlib.Core.Path.{◌≡◌, sym, ap, ap₂, ◌∙◌}
use mathlib.Core.List.{List}
use Prim.Native.Nat.{ℕ, ◌+◌, ◌-◌, ◌*◌, ◌≤◌, ◌<◌}
use native.Mathlib.Nat.{suc-mul, mul-le-mul_right, zero-lt-suc}
use native.Mathlib.Decide.{dec_lt}
use native.Mathlib.Numerals.{add-one}
use native.Mathlib.Omega.{arith}
use lib.ListN.{length, get_or, take, drop, length-take, length-drop, get_or-eq_default}
use lib.Seq.{length-take-le, get_or-take, get_or-drop}
use Rattle.bch.specs.Polynomial.{◌⊕◌, Bits}
use Rattle.bch.specs.Powers.{xor_sum}
use Rattle.bch.proofs.Sum.{⊕_assoc}

pub row_end : (j n w : ℕ) → j < n → j * w + w ≤ n * w
row_end j n w h = rw suc-mul at (mul-le-mul_right w h)

module _ (l : List ℕ) (from w : ℕ) where
  pub row-length : from + w ≤ length l → length (take (from + w - from) (drop from l)) ≡ w
  row-length h =
      let e : from + w - from ≡ w = omega arith in rw e (length-take-le w (drop from l) (rw length-drop (omega arith)))

  pub row_at : (a : ℕ) → a < w → get_or (take (from + w - from) (drop from l)) a 0 ≡ get_or l (from + a) 0
  row_at a h = get_or-take (from + w - from) (drop from l) a 0 (omega arith) ∙ get_or-drop from l a 0

pub row-bits : (l : List ℕ) (from n : ℕ) → Bits l → Bits (take n (drop from l))
row-bits l from n h k = go (dec_lt k n)
  where
    go : Dec (k < n) → get_or (take n (drop from l)) k 0 < 2
    go (yes i) = rw (get_or-take n (drop from l) k 0 i, get_or-drop) (h (from + k))
    go (no i) = rw (get_or-eq_default (take n (drop from l)) 0 {n = k} (omega (arith, length-take n (drop from l)))) (zero-lt-suc 1)

pub column-more : (n s x b : ℕ) (f : ℕ → ℕ) → s ≡ b ⊕ xor_sum n f → x ≡ f n → s ⊕ x ≡ b ⊕ xor_sum (n + 1) f
unfolding xor_sum
column-more n s x b f e h = ap₂ ◌⊕◌ e h ∙ ⊕_assoc b (xor_sum n f) (f n) ∙ ap (λ (k : ℕ). b ⊕ xor_sum k f) (sym (add-one n))
