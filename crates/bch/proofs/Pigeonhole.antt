-- A map of the numbers below n into themselves that never takes a value twice takes every value.
--   pigeonhole
-- Assumes nothing.
use mathlib.Core.Path.{◌≡◌, refl, sym, ◌∙◌, subst}
use mathlib.Core.Logic.{◌≢◌, ◌⊎◌, inl, inr, ⊎_elim}
use Prim.Native.Nat.{ℕ, zero, suc, ◌<◌}
use native.Mathlib.Nat.{lt-suc_self, le_step, not-suc-le-zero}
use native.Mathlib.Decide.{ℕ_discrete}
use native.Mathlib.Omega.{arith}

abbrev pub Injective : ℕ → (ℕ → ℕ) → Type 0
Injective n f = (i j : ℕ) → i < n → j < n → f i ≡ f j → i ≡ j

abbrev pub Hits : ℕ → (ℕ → ℕ) → ℕ → Type 0
Hits n f y = (i : ℕ) × (i < n) × (f i ≡ y)

-- v in the place of n
swap_in : (n v x : ℕ) → Dec (x ≡ n) → ℕ
swap_in n v x (yes e) = v
swap_in n v x (no h) = x

abbrev Swapped : (n v x z : ℕ) → Type 0
Swapped n v x z = ((x ≡ n) × (z ≡ v)) ⊎ ((x ≢ n) × (z ≡ x))

swap_is : (n v x : ℕ) (d : Dec (x ≡ n)) → Swapped n v x (swap_in n v x d)
unfolding swap_in
swap_is n v x (yes e) = inl (e, refl)
swap_is n v x (no h) = inr (h, refl)

module _ (n : ℕ) (f : ℕ → ℕ) (below : (i : ℕ) → i < suc n → f i < suc n) (inj : Injective (suc n) f) where
  g : ℕ → ℕ
  g i = swap_in n (f n) (f i) (ℕ_discrete (f i) n)

  g-is : (i : ℕ) → Swapped n (f n) (f i) (g i)
  unfolding g
  g-is i = swap_is n (f n) (f i) (ℕ_discrete (f i) n)

  -- below n, f does not take the value that it takes at n
  apart : (i : ℕ) → i < n → f i ≢ f n
  apart i h e = let q : i ≡ n = inj i n (le_step h) (lt-suc_self n) e in omega arith

  g-below : (i : ℕ) → i < n → g i < n
  g-below i h = go (g-is i)
    where
      go : Swapped n (f n) (f i) (g i) → g i < n
      go (inl c) = let a : f i ≢ f n = apart i h in omega (arith, below n (lt-suc_self n))
      go (inr c) = omega (arith, below i (le_step h))

  g_inj : Injective n g
  g_inj i j hi hj e = go (g-is i) (g-is j)
    where
      go : Swapped n (f n) (f i) (g i) → Swapped n (f n) (f j) (g j) → i ≡ j
      go (inl a) (inl b) = inj i j (le_step hi) (le_step hj) (a.0 ∙ sym b.0)
      go (inl a) (inr b) = absurd (apart j hj (sym b.1 ∙ sym e ∙ a.1))
      go (inr a) (inl b) = absurd (apart i hi (sym a.1 ∙ e ∙ b.1))
      go (inr a) (inr b) = inj i j (le_step hi) (le_step hj) (sym a.1 ∙ e ∙ b.1)

  widen : ((y : ℕ) → y < n → Hits n g y) → (y : ℕ) → y < suc n → Hits (suc n) f y
  widen ih y h = go (ℕ_discrete y (f n)) (ℕ_discrete y n)
    where
      old : (k : ℕ) → k < n → k ≢ f n → Hits (suc n) f k
      old k hk ne = let r = ih k hk in ⊎_elim (λ c. absurd (ne (sym r.2 ∙ c.1))) (λ c. (r.0, le_step r.1, sym c.1 ∙ r.2)) (g-is r.0)

      top : f n < n → Hits (suc n) f n
      top hk = let r = ih (f n) hk in ⊎_elim (λ c. (r.0, le_step r.1, c.0)) (λ c. absurd (apart r.0 r.1 (sym c.1 ∙ r.2))) (g-is r.0)

      go : Dec (y ≡ f n) → Dec (y ≡ n) → Hits (suc n) f y
      go (yes e) d = (n, lt-suc_self n, sym e)
      go (no ne) (yes e) = subst (Hits (suc n) f) (sym e) (top (omega (arith, below n (lt-suc_self n))))
      go (no ne) (no e) = old y (omega arith) ne

pub pigeonhole : (n : ℕ) (f : ℕ → ℕ) → ((i : ℕ) → i < n → f i < n) → Injective n f → (y : ℕ) → y < n → Hits n f y
pigeonhole zero f below inj y h = absurd (not-suc-le-zero h)
pigeonhole (suc n) f below inj y h = widen n f below inj (pigeonhole n (g n f below inj) (g-below n f below inj) (g_inj n f below inj)) y h
