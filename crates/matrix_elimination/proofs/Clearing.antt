-- Rows that take rows of the table, one after the other.
--   cleared-none, cleared_next   no row; some rows, and then the next
--   cleared_one                  one row, to which a row of the table was added
--   named-below                  a number of h bits is that of a row of the table
-- Assumes nothing.
use mathlib.Core.Path.{◌≡◌, refl, sym, ap, ap₂, ◌∙◌}
use mathlib.Core.Bool.{Bool, cond}
use mathlib.Core.List.{List}
use Prim.Native.Nat.{ℕ, ◌+◌, ◌*◌, ◌%◌, ◌^◌, ◌≤◌, ◌<◌}
use native.Mathlib.Nat.{mod-lt}
use native.Mathlib.Decide.{dec_lt}
use native.Mathlib.Omega.{arith}
use borrow.Author.Tests.{eq-eqb, ne_eqb}
use lib.Bits.{bit_xor}
use lib.ListN.{length, get_or}
use lib.Pow.{pow_pos, pow_mono}
use Rattle.matrix_elimination.specs.Cleared.{RowsCleared}
use Rattle.matrix_elimination.proofs.RowBits.{Added}

pub named-below : (x h : ℕ) → h ≤ 8 → x % 2 ^ h < 256
named-below x h l =
    let few : 2 ^ h ≤ 2 ^ 8 = pow_mono {j = 8} l in
    let low : x % 2 ^ h < 2 ^ h = mod-lt x (pow_pos h) in
    omega (arith, few, low)

module _ (n w b h : ℕ) where
  pub cleared-none : (i : ℕ) (m : List ℕ) → RowsCleared n w b h i i m m
  cleared-none i m = record {
    long = refl;
    before = λ k c l hc. refl;
    within = λ k c l l₂. absurd (omega arith);
    after = λ k c l hk hc. refl;
  }

  -- row i took row x of the table
  pub cleared_one : (i x : ℕ) (m new : List ℕ) → i < n → x ≡ get_or m (i * w + b) 0 % 2 ^ h → length new ≡ length m → Added (n + 256) w i (n + x) m new
      → RowsCleared n w b h i (i + 1) m new
  cleared_one i x m new hi ex len f = record {
    long = len;
    before = λ k c l hc. other k c (omega (arith, l, hi)) hc (λ d. omega (arith, d, l));
    within = λ k c l l₂ hc.
        let e : k ≡ i = omega (arith, l, l₂) in
        f k c (omega (arith, l₂, hi)) hc
        ∙ ap (λ (z : Bool). cond z (bit_xor (get_or m (i * w + c) 0) (get_or m ((n + x) * w + c) 0)) (get_or m (k * w + c) 0)) (eq-eqb k i e)
        ∙ ap₂ (λ (u y : ℕ). bit_xor (get_or m (u * w + c) 0) (get_or m ((n + y) * w + c) 0)) (sym e)
        (ex ∙ ap (λ (z : ℕ). get_or m (z * w + b) 0 % 2 ^ h) (sym e));
    after = λ k c l hk hc. other k c hk hc (λ d. omega (arith, d, l));
  }
    where
      other : (k c : ℕ) → k < n + 256 → c < w → (k ≡ i → ⊥) → get_or new (k * w + c) 0 ≡ get_or m (k * w + c) 0
      other k c hk hc d =
          f k c hk hc
          ∙ ap (λ (z : Bool). cond z (bit_xor (get_or m (i * w + c) 0) (get_or m ((n + x) * w + c) 0)) (get_or m (k * w + c) 0)) (ne_eqb k i d)

  module _ (hb : b < w) (few : h ≤ 8) (from i : ℕ) (order : from ≤ i) (hi : i < n) (m₀ m new : List ℕ)
      (s : RowsCleared n w b h from i m₀ m) (t : RowsCleared n w b h i (i + 1) m new) where
    pub cleared_next : RowsCleared n w b h from (i + 1) m₀ new
    cleared_next = record {
      long = t.long ∙ s.long;
      before = λ k c l hc. t.before k c (omega (arith, l, order)) hc ∙ s.before k c l hc;
      within = λ k c l l₂ hc. go k c l l₂ hc (dec_lt k i);
      after = λ k c l hk hc. t.after k c l hk hc ∙ s.after k c (omega (arith, l)) hk hc;
    }
      where
        go : (k c : ℕ) → from ≤ k → k < i + 1 → c < w → Dec (k < i)
            → get_or new (k * w + c) 0 ≡ bit_xor (get_or m₀ (k * w + c) 0) (get_or m₀ ((n + get_or m₀ (k * w + b) 0 % 2 ^ h) * w + c) 0)
        go k c l l₂ hc (yes d) = t.before k c d hc ∙ s.within k c l d hc
        go k c l l₂ hc (no d) =
            let x : ℕ = get_or m (k * w + b) 0 % 2 ^ h in
            let hx : x < 256 = named-below (get_or m (k * w + b) 0) h few in
            let same : i ≤ k = omega (arith, d) in
            t.within k c same l₂ hc
            ∙ ap₂ bit_xor (s.after k c same (omega (arith, l₂, hi)) hc)
            (s.after (n + x) c (omega (arith, hi)) (omega (arith, hx)) hc
            ∙ ap (λ (z : ℕ). get_or m₀ ((n + z % 2 ^ h) * w + c) 0) (s.after k b same (omega (arith, l₂, hi)) hb))
