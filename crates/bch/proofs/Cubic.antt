-- Three powers of the root from their sum, the sum of their cubes and that of their fifth powers, for m from 4 to 10. Each of them plus
-- their sum is a root of a cubic: with y + z = a and x + z = b, x + y is a + b, and the cubic is (Y + a) (Y + b) (Y + (a + b)).
--   three_cubes, three_fifths   its coefficients, from the sums
--   three_roots, root_one       a, b and a + b are its roots, and the only ones
--   cubic_defect     its last coefficient is not 0
--   cubic_solution   the equation z³ + z = power v, to which it is brought, has a solution
--   cubic-root       and each solution leads to one of the three
-- Assumes nothing.
use mathlib.Core.Path.{◌≡◌, sym, ap, ap₂, ◌∙◌, subst⁻¹}
use mathlib.Core.Logic.{◌≢◌, ◌⊎◌, inl, inr, ⊎_map}
use Prim.Native.Nat.{ℕ, ◌+◌, ◌-◌, ◌*◌, ◌^◌, ◌≤◌, ◌<◌}
use native.Mathlib.Decide.{ℕ_discrete}
use Rattle.bch.specs.Polynomial.{◌⊕◌}
use Rattle.bch.specs.Field.{field_poly, power}
use Rattle.bch.specs.Locator.{Solution, TripleOf, PowerIs}
use Rattle.bch.proofs.Sum.{⊕·simp, ⊕-self, ⊕_equal, ⊕-below}
use Rattle.bch.proofs.Field.{Field, mul}
use Rattle.bch.proofs.Primitive.{field_laws, every_power}
use Rattle.bch.proofs.Algebra.{sum-mul, mul-zero, zero-mul, mul_left_comm, cancel}
use Rattle.bch.proofs.Locator.{power_below, power-not-zero, power-add, power_square, power_cube, power_fifth, quotient, solution_positive, pair_sum}

-- of three, the sum of two and each one, from sums of two and the sum of all
third : (x y z : ℕ) → x ⊕ y ≡ y ⊕ z ⊕ (x ⊕ z)
third x y z = simp ⊕·simp

others : (x y z : ℕ) → (y ⊕ z ⊕ (x ⊕ (y ⊕ z)) ≡ x) × (x ⊕ z ⊕ (x ⊕ (y ⊕ z)) ≡ y) × (y ⊕ z ⊕ (x ⊕ z) ⊕ (x ⊕ (y ⊕ z)) ≡ z)
others x y z = (simp ⊕·simp, simp ⊕·simp, simp ⊕·simp)

module _ (m : ℕ) (◌·◌ : ℕ → ℕ → ℕ) (F : Field m ◌·◌) where
  infixl 70 ◌·◌
  three_cubes : (x y z : ℕ) → (x ⊕ (y ⊕ z)) · ((x ⊕ (y ⊕ z)) · (x ⊕ (y ⊕ z))) ⊕ (x · (x · x) ⊕ (y · (y · y) ⊕ z · (z · z))) ≡ (y ⊕ z) · ((x ⊕ z) · (y ⊕ z ⊕ (x ⊕ z)))
  three_cubes x y z = simp (F.mul-sum, sum-mul m ◌·◌ F, F.mul_comm, mul_left_comm m ◌·◌ F, ⊕·simp)

  three_fifths : (x y z : ℕ)
      → (x ⊕ (y ⊕ z)) · ((x ⊕ (y ⊕ z)) · (x ⊕ (y ⊕ z)) · ((x ⊕ (y ⊕ z)) · (x ⊕ (y ⊕ z))))
      ⊕ (x · (x · x · (x · x)) ⊕ (y · (y · y · (y · y)) ⊕ z · (z · z · (z · z))))
      ≡ (y ⊕ z) · ((x ⊕ z) · (y ⊕ z ⊕ (x ⊕ z))) · ((y ⊕ z) · (y ⊕ z) ⊕ ((y ⊕ z) · (x ⊕ z) ⊕ (x ⊕ z) · (x ⊕ z)))
  three_fifths x y z = simp (F.mul-sum, sum-mul m ◌·◌ F, F.mul_assoc, F.mul_comm, mul_left_comm m ◌·◌ F, ⊕·simp)

  cubic : (y a b : ℕ) → (y ⊕ a) · ((y ⊕ b) · (y ⊕ (a ⊕ b))) ≡ y · (y · y) ⊕ (a · a ⊕ (a · b ⊕ b · b)) · y ⊕ a · (b · (a ⊕ b))
  cubic y a b = simp (F.mul-sum, sum-mul m ◌·◌ F, F.mul_assoc, F.mul_comm, mul_left_comm m ◌·◌ F, ⊕·simp)

  scaled : (c z : ℕ) → c · z · (c · z · (c · z)) ⊕ c · c · (c · z) ≡ c · (c · c) · (z · (z · z) ⊕ z)
  scaled c z = simp (F.mul-sum, F.mul_assoc, mul_left_comm m ◌·◌ F, ⊕·simp)

  root_one : (a b : ℕ) → a · (a · a) ⊕ (a · a ⊕ (a · b ⊕ b · b)) · a ⊕ a · (b · (a ⊕ b)) ≡ 0
  root_one a b = sym (cubic a a b) ∙ ap (λ n. n · ((a ⊕ b) · (a ⊕ (a ⊕ b)))) (⊕-self a) ∙ zero-mul m ◌·◌ F _

  -- a product of three is 0 only where one of them is
  zero_of_three : (a b c : ℕ) → a < 2 ^ m → b < 2 ^ m → c < 2 ^ m → a · (b · c) ≡ 0 → (a ≡ 0) ⊎ ((b ≡ 0) ⊎ (c ≡ 0))
  zero_of_three a b c ha hb hc z = go (ℕ_discrete a 0) (ℕ_discrete b 0)
    where
      go : Dec (a ≡ 0) → Dec (b ≡ 0) → (a ≡ 0) ⊎ ((b ≡ 0) ⊎ (c ≡ 0))
      go (yes e) d = inl e
      go (no n) (yes e) = inr (inl e)
      go (no n) (no k) = inr (inr (F.domain b c hb hc k (F.domain a (b · c) ha (F.mul-below b c) n z)))

  three_roots : (y a b : ℕ) → y < 2 ^ m → a < 2 ^ m → b < 2 ^ m → y · (y · y) ⊕ (a · a ⊕ (a · b ⊕ b · b)) · y ⊕ a · (b · (a ⊕ b)) ≡ 0
      → (y ≡ a) ⊎ ((y ≡ b) ⊎ (y ≡ a ⊕ b))
  three_roots y a b hy ha hb z =
      ⊎_map ⊕_equal (⊎_map ⊕_equal ⊕_equal)
      (zero_of_three (y ⊕ a) (y ⊕ b) (y ⊕ (a ⊕ b)) (⊕-below m y a hy ha) (⊕-below m y b hy hb) (⊕-below m y (a ⊕ b) hy (⊕-below m a b ha hb))
      (cubic y a b ∙ z))

module _ (m : ℕ) (low : 4 ≤ m) (high : m ≤ 10) where
  infixl 70 ◌·◌
  abbrev ◌·◌ : ℕ → ℕ → ℕ
  a · b = mul (field_poly m) m a b

  F : Field m (mul (field_poly m) m)
  F = field_laws m low high

  by-power : (k s p : ℕ) (f : ℕ → ℕ) → s < 2 ^ m → PowerIs m k s p → f 0 ≡ 0 → ((e : ℕ) → power m (k * e) ≡ f (power m e)) → p ≡ f s
  by-power k s p f below P f-zero f-power = go (ℕ_discrete s 0)
    where
      go : Dec (s ≡ 0) → p ≡ f s
      go (yes z) = P.0 z ∙ sym (ap f z ∙ f-zero)
      go (no d) = let (e, e-below, e-is) = every_power m low high s below d in P.1 e e-below (sym e-is) ∙ f-power e ∙ ap f e-is

  -- three powers of the root, and the cube and the fifth power of their sum
  module _ {s c f i j k : ℕ} (T : TripleOf m s c f i j k) where
    abbrev x : ℕ
    x = power m i

    abbrev y : ℕ
    y = power m j

    abbrev z : ℕ
    z = power m k

    abbrev a : ℕ
    a = y ⊕ z

    abbrev b : ℕ
    b = x ⊕ z

    a_below : a < 2 ^ m
    a_below = ⊕-below m y z (power_below m low high j) (power_below m low high k)

    b_below : b < 2 ^ m
    b_below = ⊕-below m x z (power_below m low high i) (power_below m low high k)

    s_below : s < 2 ^ m
    s_below = subst⁻¹ (λ n. n < 2 ^ m) T.sum (⊕-below m x a (power_below m low high i) a_below)

    defect : {p : ℕ} → PowerIs m 3 s p → p ⊕ c ≡ a · (b · (a ⊕ b))
    defect {p} P =
        ap₂ ◌⊕◌ (by-power 3 s p (λ n. n · (n · n)) s_below P (zero-mul m ◌·◌ F (0 · 0)) (power_cube m low high) ∙ ap (λ n. n · (n · n)) T.sum)
        (T.cubes ∙ ap₂ ◌⊕◌ (power_cube m low high i) (ap₂ ◌⊕◌ (power_cube m low high j) (power_cube m low high k)))
        ∙ three_cubes m ◌·◌ F x y z

    fifth_defect : {q : ℕ} → PowerIs m 5 s q → q ⊕ f ≡ a · (b · (a ⊕ b)) · (a · a ⊕ (a · b ⊕ b · b))
    fifth_defect {q} Q =
        ap₂ ◌⊕◌
        (by-power 5 s q (λ n. n · (n · n · (n · n))) s_below Q (zero-mul m ◌·◌ F (0 · 0 · (0 · 0))) (power_fifth m low high) ∙ ap (λ n. n · (n · n · (n · n))) T.sum)
        (T.fifths ∙ ap₂ ◌⊕◌ (power_fifth m low high i) (ap₂ ◌⊕◌ (power_fifth m low high j) (power_fifth m low high k)))
        ∙ three_fifths m ◌·◌ F x y z

    pub cubic_defect : {p : ℕ} → PowerIs m 3 s p → p ⊕ c ≢ 0
    cubic_defect P e =
        go (zero_of_three m ◌·◌ F a b (a ⊕ b) a_below b_below (⊕-below m a b a_below b_below) (sym (defect P) ∙ e))
      where
        go : (a ≡ 0) ⊎ ((b ≡ 0) ⊎ (a ⊕ b ≡ 0)) → ⊥
        go (inl e) = pair_sum m low high j k T.j_below T.k_below T.apart_jk e
        go (inr (inl e)) = pair_sum m low high i k T.i_below T.k_below T.apart_ik e
        go (inr (inr e)) = pair_sum m low high i j T.i_below T.j_below T.apart_ij (third x y z ∙ e)

    -- the last coefficient is power u, and times the middle one power l, which is the square of power h; over the cube of that, it is power v
    module _ {p q : ℕ} (P : PowerIs m 3 s p) (Q : PowerIs m 5 s q) (u l h v : ℕ) (u-is : power m u ≡ p ⊕ c) (l-is : power m l ≡ q ⊕ f)
        (half : power m (2 * h + u) ≡ power m l) (over : power m (v + 3 * h) ≡ power m u) where
      abbrev w : ℕ
      w = power m h

      middle : w · w ≡ a · a ⊕ (a · b ⊕ b · b)
      middle =
          cancel m ◌·◌ F (w · w) (a · a ⊕ (a · b ⊕ b · b)) (power m u) (F.mul-below w w)
          (⊕-below m (a · a) (a · b ⊕ b · b) (F.mul-below a a) (⊕-below m (a · b) (b · b) (F.mul-below a b) (F.mul-below b b)))
          (power_below m low high u) (power-not-zero m low high u)
          (F.mul_comm (power m u) (w · w) ∙ ap (λ n. n · power m u) (sym (power_square m low high h)) ∙ sym (power-add m low high (2 * h) u) ∙ half ∙ l-is
          ∙ fifth_defect Q ∙ ap (λ n. n · (a · a ⊕ (a · b ⊕ b · b))) (sym (u-is ∙ defect P)))

      last : w · (w · w) · power m v ≡ a · (b · (a ⊕ b))
      last =
          F.mul_comm (w · (w · w)) (power m v) ∙ ap (λ n. power m v · n) (sym (power_cube m low high h)) ∙ sym (power-add m low high v (3 * h)) ∙ over ∙ u-is
          ∙ defect P

      -- the cubic at w g, for any g
      at : (g : ℕ) → w · g · (w · g · (w · g)) ⊕ (a · a ⊕ (a · b ⊕ b · b)) · (w · g) ≡ w · (w · w) · (g · (g · g) ⊕ g)
      at g = ap (λ n. w · g · (w · g · (w · g)) ⊕ n · (w · g)) (sym middle) ∙ scaled m ◌·◌ F w g

      -- g³ + g by its factors
      factors : (g : ℕ) → power m g · (power m (2 * g) ⊕ 1) ≡ power m g · (power m g · power m g) ⊕ power m g
      factors g =
          F.mul-sum (power m g) (power m (2 * g)) 1
          ∙ ap₂ ◌⊕◌ (ap (λ n. power m g · n) (power_square m low high g)) (F.mul_comm (power m g) 1 ∙ F.mul-one (power m g) (power_below m low high g))

      divided : (g : ℕ) → w · power m g ≡ a → Solution m 2 v g
      divided g here =
          let r : ℕ = power m g in
          let r-below : r < 2 ^ m = power_below m low high g in
          let solves : r · (power m (2 * g) ⊕ 1) ≡ power m v =
          factors g
          ∙ cancel m ◌·◌ F (r · (r · r) ⊕ r) (power m v) (w · (w · w)) (⊕-below m (r · (r · r)) r (F.mul-below r (r · r)) r-below) (power_below m low high v)
          (F.mul-below w (w · w)) (λ z. power-not-zero m low high (3 * h) (power_cube m low high h ∙ z))
          (sym (at r) ∙ ap (λ n. n · (n · n) ⊕ (a · a ⊕ (a · b ⊕ b · b)) · n) here ∙ ⊕_equal (root_one m ◌·◌ F a b) ∙ sym last)
          in
          let nz : power m (2 * g) ⊕ 1 ≢ 0 = λ z. power-not-zero m low high v (sym solves ∙ ap (λ n. r · n) z ∙ mul-zero m ◌·◌ F r) in
          let (t, t-below, t-is) =
          every_power m low high (power m (2 * g) ⊕ 1) (⊕-below m (power m (2 * g)) 1 (power_below m low high (2 * g)) F.one_below) nz in
          (t, t-is, power-add m low high g t ∙ ap (λ n. r · n) t-is ∙ solves)

      pub cubic_solution : (g : ℕ) × (0 < g) × (g < 2 ^ m - 1) × Solution m 2 v g
      cubic_solution =
          let (e, e-below, e-is) = every_power m low high a a_below (pair_sum m low high j k T.j_below T.k_below T.apart_jk) in
          let (g, g-below, g-is) = quotient m low high e h in
          let solved = divided g (F.mul_comm w (power m g) ∙ sym (power-add m low high g h) ∙ g-is ∙ e-is) in
          (g, solution_positive m low high 2 v g solved, g-below, solved)

      pub cubic-root : (g : ℕ) → Solution m 2 v g → (power m (h + g) ⊕ s ≡ x) ⊎ ((power m (h + g) ⊕ s ≡ y) ⊎ (power m (h + g) ⊕ s ≡ z))
      cubic-root g (t, t-is, solves) =
          let r : ℕ = power m g in
          let product : power m (h + g) ≡ w · r = power-add m low high h g in
          let is : r · (r · r) ⊕ r ≡ power m v = sym (factors g) ∙ ap (λ n. r · n) (sym t-is) ∙ sym (power-add m low high g t) ∙ solves in
          let zero : w · r · (w · r · (w · r)) ⊕ (a · a ⊕ (a · b ⊕ b · b)) · (w · r) ⊕ a · (b · (a ⊕ b)) ≡ 0 =
          ap₂ ◌⊕◌ (at r ∙ ap (λ n. w · (w · w) · n) is) (sym last) ∙ ⊕-self (w · (w · w) · power m v) in
          let found : (n : ℕ) → w · r ≡ n → power m (h + g) ⊕ s ≡ n ⊕ (x ⊕ (y ⊕ z)) = λ n q. ap₂ ◌⊕◌ (product ∙ q) T.sum in
          let o = others x y z in
          ⊎_map (λ q. found a q ∙ o.0) (⊎_map (λ q. found b q ∙ o.1) (λ q. found (a ⊕ b) q ∙ o.2))
          (three_roots m ◌·◌ F (w · r) a b (F.mul-below w r) a_below b_below zero)
