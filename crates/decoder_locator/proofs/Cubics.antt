-- The search for one of three exponents, from the sums of the powers of the root, of their cubes and of their fifth powers.
--   fifth_next                         the exponents of `fifth_of`
--   power_of_zero, power_of_is         what `power_of` answers
--   cubic_root_is                      what `cubic_root` answers
-- Assumes nothing.
use mathlib.Core.Path.{◌≡◌, refl, sym, ap, ◌∙◌}
use mathlib.Core.Logic.{◌≢◌, ◌⊎◌, inl, inr, ⊎_map}
use mathlib.Core.List.{List}
use Prim.Native.Nat.{ℕ, ◌+◌, ◌-◌, ◌*◌, ◌%◌, ◌^◌, ◌≤◌, ◌<◌}
use native.Mathlib.Omega.{arith}
use lib.Pow.{pow_pos}
use Rattle.bch.specs.Polynomial.{◌⊕◌}
use Rattle.bch.specs.Field.{field_poly, power}
use Rattle.bch.specs.Locator.{Solution, PowerIs}
use Rattle.bch.proofs.Sum.{⊕_comm}
use Rattle.bch.proofs.Field.{mul}
use Rattle.bch.proofs.Locator.{power_cycle, power-rounds, power-mod, power-add, power-not-zero}
use Rattle.bch.proofs.Cubic.{cubic_solution, cubic-root}
use Rattle.decoder_locator.specs.Steps.{Field, LogIs, SolutionIs, CubicRootOf}
use Rattle.decoder_locator.proofs.Roots.{log-only, Wrapped, wrapped_same}

pub power_of_zero : {m : ℕ} {field : List ℕ} → Field m field → (k : ℕ) {x : ℕ} → x ≡ 0 → (0 < 2 ^ m) × PowerIs m k x 0
power_of_zero {m} F k z = (pow_pos m, ((λ e. refl), λ e l q. absurd (power-not-zero m F.m-low F.m-high e (sym q ∙ z))))

module _ {m : ℕ} {field : List ℕ} (F : Field m field) {n : ℕ} (count : n ≡ 2 ^ m - 1) where
  low : 4 ≤ m
  low = F.m-low

  high : m ≤ 10
  high = F.m-high

  -- five more
  pub fifth_next : (e k a : ℕ) → Wrapped n (e + 5) a → power m e ≡ power m (5 * k) → power m a ≡ power m (5 * (k + 1))
  fifth_next e k a w same =
      let q : 5 * k + 5 ≡ 5 * (k + 1) = omega arith in
      wrapped_same F count w ∙ power-add m low high e 5 ∙ ap (λ (z : ℕ). mul (field_poly m) m z (power m 5)) same
      ∙ sym (power-add m low high (5 * k) 5) ∙ ap (power m) q

  reduced : {y : ℕ} (x : ℕ) → y ≡ power m (x % n) → y ≡ power m x
  reduced x e = e ∙ ap (λ (k : ℕ). power m (x % k)) count ∙ power-mod m low high x

  pub power_of_is : (k : ℕ) {x b a : ℕ} → x ≢ 0 → LogIs m x b → (a ≡ power m (k * b % n)) × (a < 2 ^ m) → (a < 2 ^ m) × PowerIs m k x a
  power_of_is k {x} {b} {a} d L e = (
    e.1,
    ((λ z. absurd (d z)), λ i l q. reduced (k * b) e.0 ∙ ap (λ (z : ℕ). power m (k * z)) (log-only low high i L l q)),
  )

  -- a power of twice h, over power u
  halved : (h u l : ℕ) → u < n → (2 * h ≡ l + n - u) ⊎ (2 * h ≡ l + n - u + n) → power m (2 * h + u) ≡ power m l
  halved h u l b (inl e) = let q : 2 * h + u ≡ l + (2 ^ m - 1) = omega (arith, e, count) in ap (power m) q ∙ power_cycle m low high l
  halved h u l b (inr e) =
      let q : 2 * h + u ≡ l + (2 ^ m - 1) + (2 ^ m - 1) = omega (arith, e, count) in
      ap (power m) q ∙ power_cycle m low high (l + (2 ^ m - 1)) ∙ power_cycle m low high l

  over : (h u : ℕ) → h < 2 * n → power m ((u + 6 * n - 3 * h) % n + 3 * h) ≡ power m u
  over h u b =
      let x : ℕ = u + 6 * n - 3 * h in
      let q : x + 3 * h ≡ 6 * (2 ^ m - 1) + u = omega (arith, count) in
      power-add m low high (x % n) (3 * h) ∙ ap (λ (z : ℕ). mul (field_poly m) m z (power m (3 * h))) (reduced x refl)
      ∙ sym (power-add m low high x (3 * h)) ∙ ap (power m) q ∙ power-rounds m low high 6 u

  pub cubic_root_is : {s d e u l h g y a : ℕ} → d ≢ 0 → LogIs m d u → e ≢ 0 → LogIs m e l → h < 2 * n
      → (2 * h ≡ l + n - u) ⊎ (2 * h ≡ l + n - u + n)
      → SolutionIs m 2 ((u + 6 * n - 3 * h) % n) g → y ≡ power m ((h + g) % n)
      → LogIs m (s ⊕ y) a → CubicRootOf m s d e a
  cubic_root_is {s} {d} {e} {u} {l} {h} {g} {y} {a} d-some U e-some E h-below half S y_is A c f i j k p q T P Q d-is e-is =
      ⊎_map (here i T.i_below) (⊎_map (here j T.j_below) (here k T.k_below))
      (cubic-root m low high T P Q u l h v u_power l_power twice thrice g solves)
    where
      v : ℕ
      v = (u + 6 * n - 3 * h) % n

      u_power : power m u ≡ p ⊕ c
      u_power = U.1 d-some ∙ d-is

      l_power : power m l ≡ q ⊕ f
      l_power = E.1 e-some ∙ e-is

      twice : power m (2 * h + u) ≡ power m l
      twice = halved h u l (omega (arith, U.0, count)) half

      thrice : power m (v + 3 * h) ≡ power m u
      thrice = over h u h-below

      solves : Solution m 2 v g
      solves =
          let (w, w-above, w-below, w-solves) = cubic_solution m low high T P Q u l h v u_power l_power twice thrice in
          S.1 (S.2 w w-above w-below w-solves)

      here : (i : ℕ) → i < 2 ^ m - 1 → power m (h + g) ⊕ s ≡ power m i → a ≡ i
      here i b z = log-only low high i A b (⊕_comm s y ∙ ap (λ (z : ℕ). z ⊕ s) (reduced (h + g) y_is) ∙ z)
