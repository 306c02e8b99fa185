-- Numbers of four bytes, stored and counted.
--   stored_only   they are one number, and no other number is touched
--   only-behind   nor is what stands behind the numbers
--   kept_at-take   a number is the same where what follows the numbers is left out
--   kept_at-front  and where something follows them
--   nonzero_none, nonzero_more, nonzero_same   numbers counted
--   put-more      one number more
-- Assumes nothing.
use mathlib.Core.Path.{◌≡◌, refl, sym, ap, ap₂, ◌∙◌}
use mathlib.Core.Logic.{◌≢◌}
use mathlib.Core.List.{List, ◌++◌}
use Prim.Native.Nat.{ℕ, ◌+◌, ◌-◌, ◌*◌, ◌≤◌, ◌<◌}
use native.Mathlib.Decide.{ℕ_discrete}
use native.Mathlib.Nat.{add-zero}
use native.Mathlib.Numerals.{add-one}
use borrow.Author.Tests.{eq-eqb, ne_eqb}
use native.Mathlib.Omega.{arith}
use lib.ListN.{length, get_or, set, take, drop, length-set}
use lib.Seq.{get_or-set_same, get_or-set_other, drop-set-lt, drop-drop, get_or-take, take_at}
use Rattle.decoder_kept.specs.Numbers.{kept_at, number_at, OnlyAt, nonzero_numbers}

module _ (b : List ℕ) (k x u v w z : ℕ) (fits : 4 * k + 4 ≤ length b) (whole : u + 256 * v + 65536 * w + 16777216 * z ≡ x) where
  abbrev b1 : List ℕ
  b1 = set b (4 * k) u

  abbrev b2 : List ℕ
  b2 = set b1 (4 * k + 1) v

  abbrev b3 : List ℕ
  b3 = set b2 (4 * k + 2) w

  abbrev b4 : List ℕ
  b4 = set b3 (4 * k + 3) z

  l1 : length b1 ≡ length b
  l1 = length-set b (4 * k) u

  l2 : length b2 ≡ length b
  l2 = length-set b1 (4 * k + 1) v ∙ l1

  l3 : length b3 ≡ length b
  l3 = length-set b2 (4 * k + 2) w ∙ l2

  away : (i : ℕ) → i ≢ 4 * k → i ≢ 4 * k + 1 → i ≢ 4 * k + 2 → i ≢ 4 * k + 3 → get_or b4 i 0 ≡ get_or b i 0
  away i d0 d1 d2 d3 =
      get_or-set_other b3 (4 * k + 3) i z 0 d3 ∙ get_or-set_other b2 (4 * k + 2) i w 0 d2 ∙ get_or-set_other b1 (4 * k + 1) i v 0 d1 ∙ get_or-set_other b (4 * k) i u 0 d0

  at0 : get_or b4 (4 * k) 0 ≡ u
  at0 =
      get_or-set_other b3 (4 * k + 3) (4 * k) z 0 (λ e. omega (arith, e)) ∙ get_or-set_other b2 (4 * k + 2) (4 * k) w 0 (λ e. omega (arith, e))
      ∙ get_or-set_other b1 (4 * k + 1) (4 * k) v 0 (λ e. omega (arith, e)) ∙ get_or-set_same b (4 * k) u 0 (omega arith)

  at1 : get_or b4 (4 * k + 1) 0 ≡ v
  at1 =
      get_or-set_other b3 (4 * k + 3) (4 * k + 1) z 0 (λ e. omega (arith, e)) ∙ get_or-set_other b2 (4 * k + 2) (4 * k + 1) w 0 (λ e. omega (arith, e))
      ∙ get_or-set_same b1 (4 * k + 1) v 0 (omega (arith, l1))

  at2 : get_or b4 (4 * k + 2) 0 ≡ w
  at2 = get_or-set_other b3 (4 * k + 3) (4 * k + 2) z 0 (λ e. omega (arith, e)) ∙ get_or-set_same b2 (4 * k + 2) w 0 (omega (arith, l2))

  at3 : get_or b4 (4 * k + 3) 0 ≡ z
  at3 = get_or-set_same b3 (4 * k + 3) z 0 (omega (arith, l3))

  pub stored_only : OnlyAt b (set (set (set (set b (4 * k) u) (4 * k + 1) v) (4 * k + 2) w) (4 * k + 3) z) k x
  unfolding kept_at
  stored_only =
      record {
        long = length-set b3 (4 * k + 3) z ∙ l3;
        here = ap₂ (λ (p q : ℕ). p + 256 * q + 65536 * get_or b4 (4 * k + 2) 0 + 16777216 * get_or b4 (4 * k + 3) 0) at0 at1
            ∙ ap₂ (λ (p q : ℕ). u + 256 * v + 65536 * p + 16777216 * q) at2 at3 ∙ whole;
        others =
            λ j d.
            ap₂ (λ (p q : ℕ). p + 256 * q + 65536 * get_or b4 (4 * j + 2) 0 + 16777216 * get_or b4 (4 * j + 3) 0)
            (away (4 * j) (λ e. d (omega (arith, e))) (λ e. omega (arith, e)) (λ e. omega (arith, e)) (λ e. omega (arith, e)))
            (away (4 * j + 1) (λ e. omega (arith, e)) (λ e. d (omega (arith, e))) (λ e. omega (arith, e)) (λ e. omega (arith, e)))
            ∙ ap₂ (λ (p q : ℕ). get_or b (4 * j) 0 + 256 * get_or b (4 * j + 1) 0 + 65536 * p + 16777216 * q)
            (away (4 * j + 2) (λ e. omega (arith, e)) (λ e. omega (arith, e)) (λ e. d (omega (arith, e))) (λ e. omega (arith, e)))
            (away (4 * j + 3) (λ e. omega (arith, e)) (λ e. omega (arith, e)) (λ e. omega (arith, e)) (λ e. d (omega (arith, e))));
        behind =
            drop-set-lt (4 * k + 4) b3 (4 * k + 3) z (omega arith) ∙ drop-set-lt (4 * k + 4) b2 (4 * k + 2) w (omega arith)
            ∙ drop-set-lt (4 * k + 4) b1 (4 * k + 1) v (omega arith) ∙ drop-set-lt (4 * k + 4) b (4 * k) u (omega arith);
      }

-- the bytes behind the first N numbers
pub only-behind : {b a : List ℕ} {k x : ℕ} (N : ℕ) → k < N → OnlyAt b a k x → drop (4 * N) a ≡ drop (4 * N) b
only-behind {b} {a} {k} N h O =
    let n : ℕ = 4 * k + 4 in
    let m : ℕ = 4 * N - n in
    let e : n + m ≡ 4 * N = omega arith in
    ap (λ (z : ℕ). drop z a) (sym e) ∙ sym (drop-drop m n a) ∙ ap (drop m) O.behind ∙ drop-drop m n b ∙ ap (λ (z : ℕ). drop z b) e

-- ---- numbers with something behind them

pub kept_at-take : (b : List ℕ) (n w : ℕ) → w < n → kept_at (take (4 * n) b) w ≡ kept_at b w
unfolding kept_at
kept_at-take b n w h =
    rw (
      get_or-take (4 * n) b (4 * w) 0 (omega arith),
      get_or-take (4 * n) b (4 * w + 1) 0 (omega arith),
      get_or-take (4 * n) b (4 * w + 2) 0 (omega arith),
      get_or-take (4 * n) b (4 * w + 3) 0 (omega arith),
    )

-- b has n numbers
pub kept_at-front : (b rest : List ℕ) (n w : ℕ) → length b ≡ 4 * n → w < n → kept_at (b ++ rest) w ≡ kept_at b w
kept_at-front b rest n w e h = sym (kept_at-take (b ++ rest) n w h) ∙ ap (λ (x : List ℕ). kept_at x w) (take_at b rest (4 * n) e)

-- ---- numbers counted

pub nonzero_none : (b : List ℕ) → 0 ≡ nonzero_numbers b 0
unfolding nonzero_numbers
nonzero_none b = refl

module _ (b : List ℕ) (k : ℕ) where
  pub nonzero_more : number_at b k ≢ 0 → nonzero_numbers b (k + 1) ≡ nonzero_numbers b k + 1
  unfolding nonzero_numbers
  nonzero_more d = rw (add-one, ne_eqb (number_at b k) 0 d) refl

  pub nonzero_same : number_at b k ≡ 0 → nonzero_numbers b (k + 1) ≡ nonzero_numbers b k
  unfolding nonzero_numbers
  nonzero_same e = rw (add-one, eq-eqb (number_at b k) 0 e) (add-zero (nonzero_numbers b k))

-- ---- numbers stored one after the other

pub put-more : (sums : List ℕ) (from n : ℕ) (b m a : List ℕ) → ((k : ℕ) → k < n → kept_at m (from + k) ≡ get_or sums k 0) → ((w : ℕ) → w < from → kept_at m w ≡ kept_at b w)
    → OnlyAt m a (from + n) (get_or sums n 0)
    → ((k : ℕ) → k < n + 1 → kept_at a (from + k) ≡ get_or sums k 0) × ((w : ℕ) → w < from → kept_at a w ≡ kept_at b w)
put-more sums from n b m a here before O = (more, λ w h. O.others w (λ e. omega (arith, e, h)) ∙ before w h)
  where
    more : (k : ℕ) → k < n + 1 → kept_at a (from + k) ≡ get_or sums k 0
    more k h = go (ℕ_discrete k n)
      where
        go : Dec (k ≡ n) → kept_at a (from + k) ≡ get_or sums k 0
        go (yes e) = ap (λ (j : ℕ). kept_at a (from + j)) e ∙ O.here ∙ ap (λ (j : ℕ). get_or sums j 0) (sym e)
        go (no e) = O.others (from + k) (λ d. e (omega (arith, d))) ∙ here k (omega arith)
