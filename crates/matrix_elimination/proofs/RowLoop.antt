-- A loop that writes the bytes of one row, and reads others of the same slice that it does not write.
--   Written                      the first c bytes of the row are written, everything else is as it was
--   written_none, written_next   before the first byte, after one more
--   written-rows                 row by row, after the last
--   rows_apart, other_byte       a byte of another row is as it was
-- Assumes nothing.
use mathlib.Core.Path.{◌≡◌, refl, sym, ap, ◌∙◌}
use mathlib.Core.Bool.{Bool, cond}
use mathlib.Core.Logic.{◌≢◌, ◌⊎◌, inl, inr}
use mathlib.Core.List.{List}
use Prim.Native.Nat.{ℕ, ◌+◌, ◌*◌, ◌≤◌, ◌<◌}
use native.Mathlib.Omega.{arith}
use native.Mathlib.Decide.{ℕ_discrete, dec_lt}
use lib.Dec.{eqb}
use lib.ListN.{length, get_or, set, length-set}
use lib.Seq.{get_or-set_same, get_or-set_other}
use borrow.Author.Tests.{eq-eqb, ne_eqb}
use Rattle.staircase.proofs.Bounds.{stretch-end}

-- from place x on, the bytes f 0, .., f (c - 1)
pub record Written (m₀ : List ℕ) (x c : ℕ) (f : ℕ → ℕ) (m : List ℕ) : Type 0 where
  pub long : length m ≡ length m₀
  pub front : (q : ℕ) → q < x → get_or m q 0 ≡ get_or m₀ q 0
  pub done : (j : ℕ) → j < c → get_or m (x + j) 0 ≡ f j
  pub rest : (q : ℕ) → x + c ≤ q → get_or m q 0 ≡ get_or m₀ q 0

pub written_none : (m₀ : List ℕ) (x : ℕ) (f : ℕ → ℕ) → Written m₀ x 0 f m₀
written_none m₀ x f = record { long = refl; front = λ q h. refl; done = λ j h. absurd (omega arith); rest = λ q h. refl }

pub written_next : (m₀ : List ℕ) (x c : ℕ) (f : ℕ → ℕ) (m : List ℕ) (v : ℕ) → x + c < length m₀ → v ≡ f c → Written m₀ x c f m
    → Written m₀ x (c + 1) f (set m (x + c) v)
written_next m₀ x c f m v room e k = record {
  long = length-set m (x + c) v ∙ k.long;
  front = λ q h. get_or-set_other m (x + c) q v 0 (λ d. omega (arith, d, h)) ∙ k.front q h;
  done = λ j h. go j h (ℕ_discrete j c);
  rest = λ q h. get_or-set_other m (x + c) q v 0 (λ d. omega (arith, d, h)) ∙ k.rest q (omega arith);
}
  where
    go : (j : ℕ) → j < c + 1 → Dec (j ≡ c) → get_or (set m (x + c) v) (x + j) 0 ≡ f j
    go j h (yes d) =
        ap (λ (z : ℕ). get_or (set m (x + c) v) (x + z) 0) d
        ∙ get_or-set_same m (x + c) v 0 (omega (arith, room, k.long)) ∙ e ∙ ap f (sym d)
    go j h (no d) = get_or-set_other m (x + c) (x + j) v 0 (λ z. d (omega (arith, z))) ∙ k.done j (omega arith)

pub written-rows : (m₀ : List ℕ) (w to : ℕ) (f : ℕ → ℕ) (m : List ℕ) → Written m₀ (to * w) w f m
    → (i c : ℕ) → c < w → get_or m (i * w + c) 0 ≡ cond (eqb i to) (f c) (get_or m₀ (i * w + c) 0)
written-rows m₀ w to f m k i c hc = go (dec_lt i to) (dec_lt to i)
  where
    go : Dec (i < to) → Dec (to < i) → get_or m (i * w + c) 0 ≡ cond (eqb i to) (f c) (get_or m₀ (i * w + c) 0)
    go (yes a) d =
        k.front (i * w + c) (omega (arith, stretch-end i to w a, hc))
        ∙ sym (ap (λ (z : Bool). cond z (f c) (get_or m₀ (i * w + c) 0)) (ne_eqb i to (λ e. omega (arith, a, e))))
    go (no a) (yes b) =
        k.rest (i * w + c) (omega (arith, stretch-end to i w b))
        ∙ sym (ap (λ (z : Bool). cond z (f c) (get_or m₀ (i * w + c) 0)) (ne_eqb i to (λ e. omega (arith, b, e))))
    go (no a) (no b) =
        let e : i ≡ to = omega arith in
        ap (λ (z : ℕ). get_or m (z * w + c) 0) e ∙ k.done c hc
        ∙ sym (ap (λ (z : Bool). cond z (f c) (get_or m₀ (i * w + c) 0)) (eq-eqb i to e))

pub rows_apart : (to from w : ℕ) → to ≢ from → (from * w + w ≤ to * w) ⊎ (to * w + w ≤ from * w)
rows_apart to from w d = go (dec_lt from to)
  where
    go : Dec (from < to) → (from * w + w ≤ to * w) ⊎ (to * w + w ≤ from * w)
    go (yes h) = inl (stretch-end from to w h)
    go (no h) = inr (stretch-end to from w (omega (arith, h, d)))

pub other_byte : (m₀ : List ℕ) (x y c w : ℕ) (f : ℕ → ℕ) (m : List ℕ) → Written m₀ x c f m → c < w → (y + w ≤ x) ⊎ (x + w ≤ y)
    → get_or m (y + c) 0 ≡ get_or m₀ (y + c) 0
other_byte m₀ x y c w f m k l (inl h) = k.front (y + c) (omega arith)
other_byte m₀ x y c w f m k l (inr h) = k.rest (y + c) (omega arith)
