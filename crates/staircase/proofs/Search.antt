-- Tests, and the first place that passes one.
--   bool?, cond_ind, cond-true, cond-false   the two cases of a test
--   first_where-le       at most n
--   first_where_found    a place that passes is found, at it or before it
--   first_where-none     n where no place passes
--   first_where_holds, first_where-before   what is found passes, and nothing before it does
--   first_where-is       a place that passes, with none before it, is what is found
--   first_where-same     the same test finds the same place
--   first_where_last     whether one passes, of one place more
-- Assumes nothing.
use mathlib.Core.Path.{◌≡◌, refl, sym, ap, ap₂, ◌∙◌, subst}
use mathlib.Core.Bool.{Bool, true, false, ◌||◌, cond, true≢false}
use mathlib.Core.Logic.{◌⊎◌, inl, inr}
use Prim.Native.Nat.{ℕ, zero, suc, ◌≤◌, ◌<◌, zero-le, suc-le-suc}
use native.Mathlib.Nat.{le_of_suc-le-suc, not-suc-le-zero, le_antisymm}
use native.Mathlib.Decide.{dec_lt}
use native.Mathlib.Omega.{arith}
use lib.Dec.{ltb, leb-suc-suc}
use borrow.Author.Tests.{lt-ltb}
use Rattle.staircase.specs.Lists.{first_where}

pub cond_ind : {A : Type 0} (P : A → Type 0) (z : Bool) (a b : A) → (z ≡ true → P a) → (z ≡ false → P b) → P (cond z a b)
cond_ind P true a b h k = h refl
cond_ind P false a b h k = k refl

pub cond-true : {A : Type 0} (z : Bool) (a b : A) → z ≡ true → cond z a b ≡ a
cond-true z a b e = ap (λ (y : Bool). cond y a b) e

pub cond-false : {A : Type 0} (z : Bool) (a b : A) → z ≡ false → cond z a b ≡ b
cond-false z a b e = ap (λ (y : Bool). cond y a b) e

pub bool? : (z : Bool) → (z ≡ true) ⊎ (z ≡ false)
bool? true = inl refl
bool? false = inr refl

-- a place that passes is found, at it or before it
pub first_where_found : (n : ℕ) (f : ℕ → Bool) (k : ℕ) → k < n → f k ≡ true → (first_where n f ≤ k) × (f (first_where n f) ≡ true)
unfolding first_where
first_where_found zero f k l h = absurd (not-suc-le-zero l)
first_where_found (suc n) f zero l h = (subst (λ (z : Bool). cond z 0 (suc (first_where n (λ j. f (suc j)))) ≤ 0) (sym h) zero-le, go (f zero) refl h)
  where
    go : (z : Bool) → f zero ≡ z → z ≡ true → f (cond z 0 (suc (first_where n (λ j. f (suc j))))) ≡ true
    go true e h = e
    go false e h = let z : ◌≡◌ {A = ℕ} 0 1 = ap (λ (y : Bool). cond y 1 0) h in absurd (omega arith)
first_where_found (suc n) f (suc k) l h = go (f zero) refl (first_where_found n (λ j. f (suc j)) k (le_of_suc-le-suc l) h)
  where
    go : (z : Bool) → f zero ≡ z → (first_where n (λ j. f (suc j)) ≤ k) × (f (suc (first_where n (λ j. f (suc j)))) ≡ true)
        → (cond z 0 (suc (first_where n (λ j. f (suc j)))) ≤ suc k) × (f (cond z 0 (suc (first_where n (λ j. f (suc j))))) ≡ true)
    go true e r = (zero-le, e)
    go false e r = (suc-le-suc r.0, r.1)

pub first_where-none : (n : ℕ) (f : ℕ → Bool) → ((k : ℕ) → k < n → f k ≡ false) → first_where n f ≡ n
unfolding first_where
first_where-none zero f h = refl
first_where-none (suc n) f h =
    ap (λ (z : Bool). cond z 0 (suc (first_where n (λ k. f (suc k))))) (h zero (suc-le-suc zero-le))
    ∙ ap suc (first_where-none n (λ k. f (suc k)) (λ k l. h (suc k) (suc-le-suc l)))

pub first_where-le : (n : ℕ) (f : ℕ → Bool) → first_where n f ≤ n
unfolding first_where
first_where-le zero f = zero-le
first_where-le (suc n) f = go (f zero) (first_where-le n (λ k. f (suc k)))
  where
    go : (z : Bool) → first_where n (λ k. f (suc k)) ≤ n → cond z 0 (suc (first_where n (λ k. f (suc k)))) ≤ suc n
    go true h = zero-le
    go false h = suc-le-suc h

pub first_where-before : (n : ℕ) (f : ℕ → Bool) (k : ℕ) → k < first_where n f → f k ≡ false
first_where-before n f k l = go (bool? (f k))
  where
    go : (f k ≡ true) ⊎ (f k ≡ false) → f k ≡ false
    go (inr d) = d
    go (inl d) = absurd (omega (arith, first_where-le n f, (first_where_found n f k (omega (arith, first_where-le n f)) d).0))

pub first_where_holds : (n : ℕ) (f : ℕ → Bool) → first_where n f < n → f (first_where n f) ≡ true
first_where_holds n f h = go (bool? (f (first_where n f)))
  where
    all-false : f (first_where n f) ≡ false → (k : ℕ) → k < n → f k ≡ false
    all-false e k l = pick (bool? (f k))
      where
        pick : (f k ≡ true) ⊎ (f k ≡ false) → f k ≡ false
        pick (inr d) = d
        pick (inl d) = absurd (true≢false (sym (first_where_found n f k l d).1 ∙ e))

    go : (f (first_where n f) ≡ true) ⊎ (f (first_where n f) ≡ false) → f (first_where n f) ≡ true
    go (inl d) = d
    go (inr d) = absurd (omega (arith, h, first_where-none n f (all-false d)))

pub first_where-is : (n : ℕ) (f : ℕ → Bool) (k : ℕ) → k < n → f k ≡ true → ((p : ℕ) → p < k → f p ≡ false) → first_where n f ≡ k
first_where-is n f k l h none = le_antisymm u.0 (at_least (dec_lt (first_where n f) k))
  where
    u : (first_where n f ≤ k) × (f (first_where n f) ≡ true)
    u = first_where_found n f k l h

    at_least : Dec (first_where n f < k) → k ≤ first_where n f
    at_least (yes m) = absurd (true≢false (sym u.1 ∙ none (first_where n f) m))
    at_least (no m) = omega arith

pub first_where-same : (n : ℕ) (f g : ℕ → Bool) → ((k : ℕ) → k < n → f k ≡ g k) → first_where n f ≡ first_where n g
unfolding first_where
first_where-same zero f g h = refl
first_where-same (suc n) f g h =
    ap₂ (λ (z : Bool) (k : ℕ). cond z 0 (suc k)) (h zero (suc-le-suc zero-le))
    (first_where-same n (λ k. f (suc k)) (λ k. g (suc k)) (λ k l. h (suc k) (suc-le-suc l)))

-- of one place more, one passes exactly when one did or the new one does
pub first_where_last : (n : ℕ) (f : ℕ → Bool) → ltb (first_where (suc n) f) (suc n) ≡ (ltb (first_where n f) n || f n)
unfolding first_where
first_where_last zero f = go (f zero)
  where
    go : (z : Bool) → ltb (cond z 0 1) 1 ≡ z
    go true = refl
    go false = refl
first_where_last (suc n) f = go (f zero) (first_where (suc n) (λ k. f (suc k))) (first_where n (λ k. f (suc k))) (first_where_last n (λ k. f (suc k)))
  where
    go : (z : Bool) (x y : ℕ) → ltb x (suc n) ≡ (ltb y n || f (suc n))
        → ltb (cond z 0 (suc x)) (suc (suc n)) ≡ (ltb (cond z 0 (suc y)) (suc n) || f (suc n))
    go true x y e = rw (lt-ltb 0 (suc (suc n)) (omega arith), lt-ltb 0 (suc n) (omega arith))
    go false x y e = rw (leb-suc-suc (suc x) (suc n), leb-suc-suc (suc y) n) e
