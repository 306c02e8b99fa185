-- The product modulo a primitive polynomial makes the numbers below 2^d a field.
--   Field m _·_            the laws of a field of the numbers below 2^m with the sum `◌⊕◌`
--   Primitive f d          a polynomial of degree d by which the powers of x run through 2^d - 1 values
--   mul f d a b            the product modulo f
--   field                  the laws hold
--   power_below, power_injective, power_nonzero, power-all   the powers of x are the numbers but 0, each once
--   cycle                  after 2^d - 1 of them they come back
--   iterate-mul            times x^j is a product
-- Assumes nothing.
use mathlib.Core.Path.{◌≡◌, refl, sym, ap, ◌∙◌, subst⁻¹}
use mathlib.Core.Logic.{◌≢◌}
use mathlib.Core.Bool.{Bool, not, ◌&&◌}
use Prim.Native.Nat.{ℕ, zero, suc, pred, ◌+◌, ◌-◌, ◌/◌, ◌^◌, ◌≤◌, ◌<◌}
use native.Mathlib.Nat.{one-mul, le_refl, add-sub_of_le, not-suc-le-zero, mul-one, sub-add_cancel}
use native.Mathlib.Decide.{ℕ_discrete, dec_lt}
use native.Mathlib.Omega.{arith}
use lib.Pow.{pow_pos, pow_mono}
use lib.Dec.{T, eqb, eqb→eq, T_not}
use lib.Ieee.Fits.{and_l, and_r}
use Rattle.bch.specs.Polynomial.{◌⊕◌, times_x, iterate, poly_at}
use Rattle.bch.proofs.Polynomial.{linear_zero, iterate-add, iterate_inner, poly_at-bit, poly_at-sum, poly_at_linear, poly_at-map, poly_at_comm}
use Rattle.bch.proofs.Modulus.{times_x_linear, iterate-times_x_linear, iterate-times_x-below, poly_at_one, poly_at-below}
use Rattle.bch.proofs.Pigeonhole.{pigeonhole}

-- a field of the numbers below 2^m, with the sum `◌⊕◌`. The product of numbers past that bound is that of their remainders
module _ (m : ℕ) (◌·◌ : ℕ → ℕ → ℕ) where
  infixl 70 ◌·◌
  pub record Field : Type 0 where
    pub one_below : 1 < 2 ^ m
    pub mul-below : (a b : ℕ) → a · b < 2 ^ m
    pub mul_comm : (a b : ℕ) → a · b ≡ b · a
    pub mul_assoc : (a b c : ℕ) → a · b · c ≡ a · (b · c)
    pub mul-sum : (a b c : ℕ) → a · (b ⊕ c) ≡ a · b ⊕ a · c
    pub mul-one : (a : ℕ) → a < 2 ^ m → 1 · a ≡ a
    pub domain : (a b : ℕ) → a < 2 ^ m → b < 2 ^ m → a ≢ 0 → a · b ≡ 0 → b ≡ 0

-- the powers of x come back to 1 after n steps, and not before
unfoldable pub comes_back : (ℕ → ℕ) → ℕ → ℕ → Bool
comes_back T zero v = eqb v 1
comes_back T (suc n) v = not (eqb v 1) && comes_back T n (T v)

back : (X : ℕ → ℕ) (n v : ℕ) → T (comes_back X n v) → iterate X n v ≡ 1
unfolding comes_back iterate
back X zero v t = eqb→eq v 1 t
back X (suc n) v t = sym (iterate_inner X n v) ∙ back X n (X v) (and_r (not (eqb v 1)) (comes_back X n (X v)) t)

not-before : (X : ℕ → ℕ) (n v : ℕ) → T (comes_back X n v) → (k : ℕ) → k < n → iterate X k v ≢ 1
unfolding comes_back iterate
not-before X zero v t k h e = not-suc-le-zero h
not-before X (suc n) v t zero h e = T_not (eqb v 1) (and_l (not (eqb v 1)) (comes_back X n (X v)) t) (subst⁻¹ (λ (a : ℕ). T (eqb a 1)) e tt)
not-before X (suc n) v t (suc k) h e =
    not-before X n (X v) (and_r (not (eqb v 1)) (comes_back X n (X v)) t) k (omega arith) (iterate_inner X k v ∙ e)

-- a polynomial of degree d by which the powers of x run through 2^d - 1 values
pub record Primitive (f d : ℕ) : Type 0 where
  pub positive : 0 < d
  pub degree : f / 2 ^ d ≡ 1
  pub returns : T (comes_back (times_x f d) (2 ^ d - 2) (times_x f d 1))

unfoldable pub mul : (f d a b : ℕ) → ℕ
mul f d a b = poly_at (times_x f d) a (poly_at (times_x f d) b 1)

module _ (f d : ℕ) (P : Primitive f d) where
  pub two_below : 2 ≤ 2 ^ d
  two_below = pow_mono P.positive

  value_of_one : (p : ℕ) → p < 2 ^ d → poly_at (times_x f d) p 1 ≡ p
  value_of_one = poly_at_one f d P.degree

  reduced : (p : ℕ) → poly_at (times_x f d) p 1 < 2 ^ d
  reduced p = poly_at-below f d P.degree p 1 two_below

  pub power_below : (j : ℕ) → iterate (times_x f d) j 1 < 2 ^ d
  power_below j = iterate-times_x-below f d P.degree j 1 two_below

  iterate-poly_at : (j p v : ℕ) → iterate (times_x f d) j (poly_at (times_x f d) p v) ≡ poly_at (times_x f d) p (iterate (times_x f d) j v)
  unfolding iterate
  iterate-poly_at zero p v = refl
  iterate-poly_at (suc j) p v = ap (times_x f d) (iterate-poly_at j p v) ∙ poly_at-map (times_x f d) (times_x_linear f d) p (iterate (times_x f d) j v)

  -- 2^d - 1 steps lead back
  power-order : iterate (times_x f d) (2 ^ d - 1) 1 ≡ 1
  unfolding iterate
  power-order =
      let n : 2 ^ d - 1 ≡ 2 ^ d - 2 + 1 = omega (arith, two_below) in
      ap (λ (n : ℕ). iterate (times_x f d) n 1) n ∙ iterate-add (times_x f d) (2 ^ d - 2) 1 1 ∙ back (times_x f d) (2 ^ d - 2) (times_x f d 1) P.returns

  power-first : (k : ℕ) → 0 < k → k < (2 ^ d - 1) → iterate (times_x f d) k 1 ≢ 1
  unfolding iterate
  power-first (suc k) h l e = not-before (times_x f d) (2 ^ d - 2) (times_x f d 1) P.returns k (omega arith) (iterate_inner (times_x f d) k 1 ∙ e)
  power-first zero h l e = not-suc-le-zero h

  pub cycle : (v : ℕ) → v < 2 ^ d → iterate (times_x f d) (2 ^ d - 1) v ≡ v
  cycle v h = ap (iterate (times_x f d) (2 ^ d - 1)) (sym (value_of_one v h)) ∙ iterate-poly_at (2 ^ d - 1) v 1 ∙ ap (poly_at (times_x f d) v) power-order ∙ value_of_one v h

  -- a power of x can be taken away
  iterate_injective : (j u v : ℕ) → j ≤ (2 ^ d - 1) → u < 2 ^ d → v < 2 ^ d → iterate (times_x f d) j u ≡ iterate (times_x f d) j v → u ≡ v
  iterate_injective j u v h hu hv e =
      sym (undo u hu) ∙ ap (iterate (times_x f d) ((2 ^ d - 1) - j)) e ∙ undo v hv
    where
      undo : (w : ℕ) → w < 2 ^ d → iterate (times_x f d) ((2 ^ d - 1) - j) (iterate (times_x f d) j w) ≡ w
      undo w hw = sym (iterate-add (times_x f d) ((2 ^ d - 1) - j) j w) ∙ ap (λ (n : ℕ). iterate (times_x f d) n w) (sub-add_cancel h) ∙ cycle w hw

  pub power_nonzero : (j : ℕ) → iterate (times_x f d) j 1 ≢ 0
  unfolding iterate
  power_nonzero zero e = omega (arith, e)
  power_nonzero (suc j) e =
      power_nonzero j
      (iterate_injective 1 (iterate (times_x f d) j 1) 0 (omega (arith, two_below)) (power_below j) (pow_pos d) (e ∙ sym (linear_zero (times_x f d) (times_x_linear f d))))

  power-apart : (i j : ℕ) → i < j → j < (2 ^ d - 1) → iterate (times_x f d) i 1 ≢ iterate (times_x f d) j 1
  power-apart i j h l e =
      power-first (j - i) (omega arith) (omega arith)
      (sym (iterate_injective i 1 (iterate (times_x f d) (j - i) 1) (omega arith) two_below (power_below (j - i))
      (e ∙ ap (λ (n : ℕ). iterate (times_x f d) n 1) (sym (add-sub_of_le {n = j} {m = i} (omega arith))) ∙ iterate-add (times_x f d) i (j - i) 1)))

  pub power_injective : (i j : ℕ) → i < (2 ^ d - 1) → j < (2 ^ d - 1) → iterate (times_x f d) i 1 ≡ iterate (times_x f d) j 1 → i ≡ j
  power_injective i j hi hj e = go (ℕ_discrete i j) (dec_lt i j)
    where
      go : Dec (i ≡ j) → Dec (i < j) → i ≡ j
      go (yes q) l = q
      go (no q) (yes l) = absurd (power-apart i j l hj e)
      go (no q) (no l) = absurd (power-apart j i (omega arith) hi (sym e))

  -- each number but 0 is a power
  pub power-all : (a : ℕ) → a < 2 ^ d → a ≢ 0 → (j : ℕ) × (j < (2 ^ d - 1)) × (iterate (times_x f d) j 1 ≡ a)
  power-all a h nz =
      let (j, l, e) =
      pigeonhole (2 ^ d - 1) (λ j. pred (iterate (times_x f d) j 1))
      (λ i k. omega (arith, power_below i, power_nonzero i))
      (λ i k hi hk e. power_injective i k hi hk (omega (arith, e, power_nonzero i, power_nonzero k)))
      (pred a) (omega arith)
      in (j, l, omega (arith, e, power_nonzero j))

  -- times x^j is a product
  pub iterate-mul : (j v : ℕ) → v < 2 ^ d → iterate (times_x f d) j v ≡ mul f d (iterate (times_x f d) j 1) v
  unfolding mul
  iterate-mul j v h =
      ap (iterate (times_x f d) j) (sym (value_of_one v h)) ∙ iterate-poly_at j v 1
      ∙ ap (poly_at (times_x f d) v) (sym (value_of_one (iterate (times_x f d) j 1) (power_below j))) ∙ poly_at_comm (times_x f d) (times_x_linear f d) v (iterate (times_x f d) j 1) 1

  pub field : Field d (mul f d)
  unfolding mul
  field = record {
    one_below = two_below;
    mul-below = λ a b. poly_at-below f d P.degree a (poly_at (times_x f d) b 1) (reduced b);
    mul_comm = λ a b. poly_at_comm (times_x f d) (times_x_linear f d) a b 1;
    mul_assoc = λ a b c.
        poly_at_comm (times_x f d) (times_x_linear f d) (mul f d a b) c 1
        ∙ ap (poly_at (times_x f d) c) (value_of_one (mul f d a b) (poly_at-below f d P.degree a (poly_at (times_x f d) b 1) (reduced b)))
        ∙ poly_at_comm (times_x f d) (times_x_linear f d) c a (poly_at (times_x f d) b 1) ∙ ap (poly_at (times_x f d) a) (poly_at_comm (times_x f d) (times_x_linear f d) c b 1)
        ∙ ap (poly_at (times_x f d) a) (sym (value_of_one (mul f d b c) (poly_at-below f d P.degree b (poly_at (times_x f d) c 1) (reduced c))));
    mul-sum = λ a b c. ap (poly_at (times_x f d) a) (poly_at-sum (times_x f d) b c 1) ∙ poly_at_linear (times_x f d) (times_x_linear f d) a (poly_at (times_x f d) b 1) (poly_at (times_x f d) c 1);
    mul-one = λ a h. poly_at-bit (times_x f d) 1 (poly_at (times_x f d) a 1) (le_refl 2) ∙ one-mul (poly_at (times_x f d) a 1) ∙ value_of_one a h;
    domain = λ a b ha hb nz e.
        let (j, l, q) = power-all a ha nz in
        iterate_injective j b 0 (omega arith) hb (pow_pos d)
        (iterate-mul j b hb ∙ ap (λ (n : ℕ). mul f d n b) q ∙ e ∙ sym (linear_zero (iterate (times_x f d) j) (iterate-times_x_linear f d j)));
  }
