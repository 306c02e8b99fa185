-- Sums of bits, and matrices over the bits.
--   bit_sum_comm .. bit_sum_equal     the sum of two bits
--   sum_bits-same .. sum_bits_swap    sums of many
--   apply-product, apply-identity   a matrix at a vector
--   linear_units    a linear function of a vector, by its values at the unit vectors
--   sum_of_units    a vector is the sum of unit vectors
-- Assumes nothing.
use mathlib.Core.Path.{◌≡◌, refl, sym, ap, ap₂, ◌∙◌, subst, fun_ext}
use mathlib.Core.Bool.{Bool, true, false, cond}
use mathlib.Core.Logic.{◌≢◌}
use Prim.Native.Nat.{ℕ, zero, suc, ◌*◌, ◌<◌, zero-le, suc-le-suc}
use native.Mathlib.Nat.{le_of_suc-le-suc, not-suc-le-zero, zero-mul, mul-zero, one-mul, mul-one, mul_comm}
use native.Mathlib.Omega.{arith}
use lib.Dec.{eqb}
use borrow.Author.Tests.{eq-eqb, ne_eqb}
use Rattle.bch.proofs.Sum.{bit_ind}
use Rattle.staircase.specs.Lists.{bit_sum, sum_bits}
use Rattle.staircase.specs.Square.{BitMatrix}
use Rattle.staircase.specs.System.{Contents, zeros, unit, apply, product, identity}

pub bit_sum_comm : (a b : ℕ) → bit_sum a b ≡ bit_sum b a
bit_sum_comm a b = omega arith

pub bit_sum_assoc : (a b c : ℕ) → bit_sum (bit_sum a b) c ≡ bit_sum a (bit_sum b c)
bit_sum_assoc a b c = omega arith

pub bit_sum_swap : (a b c d : ℕ) → bit_sum (bit_sum a b) (bit_sum c d) ≡ bit_sum (bit_sum a c) (bit_sum b d)
bit_sum_swap a b c d =
    bit_sum_assoc a b (bit_sum c d)
    ∙ ap (bit_sum a) (sym (bit_sum_assoc b c d) ∙ ap (λ (z : ℕ). bit_sum z d) (bit_sum_comm b c) ∙ bit_sum_assoc c b d)
    ∙ sym (bit_sum_assoc a c (bit_sum b d))

pub bit_sum-zero : (a : ℕ) → a < 2 → bit_sum a 0 ≡ a
bit_sum-zero a h = omega arith

pub zero-bit_sum : (a : ℕ) → a < 2 → bit_sum 0 a ≡ a
zero-bit_sum a h = omega arith

pub bit_sum-self : (a : ℕ) → bit_sum a a ≡ 0
bit_sum-self a = omega arith

pub bit_sum_equal : (a b : ℕ) → a < 2 → b < 2 → bit_sum a b ≡ 0 → a ≡ b
bit_sum_equal a b h k e = omega arith

pub bit-mul-lt : (a b : ℕ) → a < 2 → b < 2 → a * b < 2
bit-mul-lt a b h k = bit_ind (λ (z : ℕ). z * b < 2) (omega arith) (omega arith) a h

pub mul-bit_sum : (a b c : ℕ) → a < 2 → a * bit_sum b c ≡ bit_sum (a * b) (a * c)
mul-bit_sum a b c h = bit_ind (λ (z : ℕ). z * bit_sum b c ≡ bit_sum (z * b) (z * c)) (omega arith) (omega arith) a h

-- ---- sums

pub sum_bits-lt : (n : ℕ) (f : ℕ → ℕ) → sum_bits n f < 2
unfolding sum_bits
sum_bits-lt zero f = omega arith
sum_bits-lt (suc n) f = omega arith

pub sum_bits-same : (n : ℕ) (f g : ℕ → ℕ) → ((k : ℕ) → k < n → f k ≡ g k) → sum_bits n f ≡ sum_bits n g
unfolding sum_bits
sum_bits-same zero f g h = refl
sum_bits-same (suc n) f g h = ap₂ bit_sum (h zero (suc-le-suc zero-le)) (sum_bits-same n (λ k. f (suc k)) (λ k. g (suc k)) (λ k l. h (suc k) (suc-le-suc l)))

pub sum_bits-sum : (n : ℕ) (f g : ℕ → ℕ) → sum_bits n (λ k. bit_sum (f k) (g k)) ≡ bit_sum (sum_bits n f) (sum_bits n g)
unfolding sum_bits
sum_bits-sum zero f g = refl
sum_bits-sum (suc n) f g =
    ap (bit_sum (bit_sum (f zero) (g zero))) (sum_bits-sum n (λ k. f (suc k)) (λ k. g (suc k)))
    ∙ bit_sum_swap (f zero) (g zero) (sum_bits n (λ k. f (suc k))) (sum_bits n (λ k. g (suc k)))

pub sum_bits-zero : (n : ℕ) (f : ℕ → ℕ) → ((k : ℕ) → k < n → f k ≡ 0) → sum_bits n f ≡ 0
unfolding sum_bits
sum_bits-zero zero f h = refl
sum_bits-zero (suc n) f h = ap₂ bit_sum (h zero (suc-le-suc zero-le)) (sum_bits-zero n (λ k. f (suc k)) (λ k l. h (suc k) (suc-le-suc l)))

-- a sum with one term
pub sum_bits_one : (n : ℕ) (f : ℕ → ℕ) (j : ℕ) → j < n → f j < 2 → ((k : ℕ) → k < n → k ≢ j → f k ≡ 0) → sum_bits n f ≡ f j
unfolding sum_bits
sum_bits_one zero f j l b h = absurd (not-suc-le-zero l)
sum_bits_one (suc n) f zero l b h =
    ap (bit_sum (f zero)) (sum_bits-zero n (λ k. f (suc k)) (λ k m. h (suc k) (suc-le-suc m) (λ e. omega arith))) ∙ bit_sum-zero (f zero) b
sum_bits_one (suc n) f (suc j) l b h =
    ap₂ bit_sum (h zero (suc-le-suc zero-le) (λ e. omega arith))
    (sum_bits_one n (λ k. f (suc k)) j (le_of_suc-le-suc l) b (λ k m d. h (suc k) (suc-le-suc m) (λ e. d (omega arith))))
    ∙ zero-bit_sum (f (suc j)) b

pub sum_bits-mul : (n : ℕ) (a : ℕ) (f : ℕ → ℕ) → a < 2 → a * sum_bits n f ≡ sum_bits n (λ k. a * f k)
unfolding sum_bits
sum_bits-mul zero a f h = mul-zero a
sum_bits-mul (suc n) a f h = mul-bit_sum a (f zero) (sum_bits n (λ k. f (suc k))) h ∙ ap (bit_sum (a * f zero)) (sum_bits-mul n a (λ k. f (suc k)) h)

pub sum_bits_swap : (n m : ℕ) (f : ℕ → ℕ → ℕ) → sum_bits n (λ i. sum_bits m (f i)) ≡ sum_bits m (λ j. sum_bits n (λ i. f i j))
unfolding sum_bits
sum_bits_swap zero m f = sym (sum_bits-zero m (λ j. 0) (λ k l. refl))
sum_bits_swap (suc n) m f =
    ap (bit_sum (sum_bits m (f zero))) (sum_bits_swap n m (λ i. f (suc i)))
    ∙ sym (sum_bits-sum m (f zero) (λ j. sum_bits n (λ i. f (suc i) j)))

-- ---- matrices of bits, n × n, at a vector of bits

pub apply-product : (n : ℕ) (a b : ℕ → ℕ → ℕ) (v : Contents) → BitMatrix a → BitMatrix b → ((k : ℕ) → v k < 2)
    → (i : ℕ) → apply n a (apply n b v) i ≡ apply n (product n a b) v i
unfolding product
apply-product n a b v ha hb hv i =
    sum_bits-same n (λ j. a i j * sum_bits n (λ k. b j k * v k)) (λ j. sum_bits n (λ k. a i j * (b j k * v k)))
    (λ j l. sum_bits-mul n (a i j) (λ k. b j k * v k) (ha i j))
    ∙ sum_bits_swap n n (λ j k. a i j * (b j k * v k))
    ∙ sum_bits-same n (λ k. sum_bits n (λ j. a i j * (b j k * v k))) (λ k. sum_bits n (λ j. a i j * b j k) * v k)
    (λ k l. sum_bits-same n (λ j. a i j * (b j k * v k)) (λ j. v k * (a i j * b j k)) (λ j m. omega arith)
    ∙ sym (sum_bits-mul n (v k) (λ j. a i j * b j k) (hv k)) ∙ mul_comm (v k) (sum_bits n (λ j. a i j * b j k)))

unit-same : (j : ℕ) → unit j j ≡ 1
unit-same j = ap (λ (z : Bool). cond z 1 0) (eq-eqb j j refl)

unit_other : (j k : ℕ) → k ≢ j → unit j k ≡ 0
unit_other j k d = ap (λ (z : Bool). cond z 1 0) (ne_eqb k j d)

pub apply-identity : (n : ℕ) (a : ℕ → ℕ → ℕ) (v : Contents) → ((k : ℕ) → v k < 2) → (i : ℕ) → i < n
    → ((j : ℕ) → j < n → a i j ≡ identity i j) → apply n a v i ≡ v i
apply-identity n a v hv i l h =
    sum_bits_one n (λ j. a i j * v j) i l (subst (λ (z : ℕ). z < 2) (sym here) (hv i))
    (λ k m d. ap (λ (z : ℕ). z * v k) (h k m ∙ ap (λ (z : Bool). cond z 1 0) (ne_eqb i k (λ e. d (sym e)))) ∙ zero-mul (v k))
    ∙ here
  where
    here : a i i * v i ≡ v i
    here = ap (λ (z : ℕ). z * v i) (h i l ∙ ap (λ (z : Bool). cond z 1 0) (eq-eqb i i refl)) ∙ one-mul (v i)

-- ---- a linear function of a vector, by its values at the unit vectors

module _ (φ : Contents → ℕ) (small : (v : Contents) → φ v < 2)
    (linear : (v w : Contents) → ((k : ℕ) → v k < 2) → ((k : ℕ) → w k < 2) → φ (λ k. bit_sum (v k) (w k)) ≡ bit_sum (φ v) (φ w)) where
  lin_zero : φ zeros ≡ 0
  lin_zero = ap φ refl ∙ linear zeros zeros (λ k. omega arith) (λ k. omega arith) ∙ bit_sum-self (φ zeros)

  unit-lt : (j k : ℕ) → unit j k < 2
  unit-lt j k = go (eqb k j)
    where
      go : (z : Bool) → cond z 1 0 < 2
      go true = omega arith
      go false = omega arith

  scaled : (a j : ℕ) → a < 2 → φ (λ k. a * unit j k) ≡ a * φ (unit j)
  scaled a j h =
      bit_ind (λ (z : ℕ). φ (λ k. z * unit j k) ≡ z * φ (unit j))
      (ap φ (fun_ext (λ k. zero-mul (unit j k))) ∙ lin_zero ∙ sym (zero-mul (φ (unit j))))
      (ap φ (fun_ext (λ k. one-mul (unit j k))) ∙ sym (one-mul (φ (unit j)))) a h

  pub linear_units : (n : ℕ) (at κ : ℕ → ℕ) → ((k : ℕ) → κ k < 2)
      → φ (λ k. sum_bits n (λ j. κ j * unit (at j) k)) ≡ sum_bits n (λ j. κ j * φ (unit (at j)))
  unfolding sum_bits
  linear_units zero at κ h = lin_zero
  linear_units (suc n) at κ h =
      linear (λ k. κ zero * unit (at zero) k) (λ k. sum_bits n (λ j. κ (suc j) * unit (at (suc j)) k))
      (λ k. bit-mul-lt (κ zero) (unit (at zero) k) (h zero) (unit-lt (at zero) k)) (λ k. sum_bits-lt n (λ j. κ (suc j) * unit (at (suc j)) k))
      ∙ ap₂ bit_sum (scaled (κ zero) (at zero) (h zero)) (linear_units n (λ j. at (suc j)) (λ j. κ (suc j)) (λ k. h (suc k)))

-- a vector is the sum of unit vectors, where `at` reaches each place once
pub sum_of_units : (n : ℕ) (at back : ℕ → ℕ) (v : Contents) → ((k : ℕ) → v k < 2) → (q : ℕ) → back q < n → at (back q) ≡ q
    → ((j : ℕ) → j < n → back (at j) ≡ j) → sum_bits n (λ j. v (at j) * unit (at j) q) ≡ v q
sum_of_units n at back v hv q l e inv =
    sum_bits_one n (λ j. v (at j) * unit (at j) q) (back q) l (subst (λ (z : ℕ). z < 2) (sym here) (hv q))
    (λ j m d. ap (λ (z : ℕ). v (at j) * z) (unit_other (at j) q (λ g. d (sym (inv j m) ∙ ap back (sym g)))) ∙ mul-zero (v (at j)))
    ∙ here
  where
    here : v (at (back q)) * unit (at (back q)) q ≡ v q
    here = ap₂ (λ (x y : ℕ). v x * unit y q) e e ∙ ap (λ (z : ℕ). v q * z) (unit-same q) ∙ mul-one (v q)
