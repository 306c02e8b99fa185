-- Square matrices of bits: one product is the identity exactly when the other is. A vector of n bits is a number below 2^n. If A W is the identity,
-- W takes no two vectors to one, and so, by counting, some vector to each column of the identity, which is then a column of A.
--   digit-number, number_digits   vectors of bits as numbers
--   onto            a map of vectors that never takes a value twice takes every value
--   apply-unit      a matrix at a column of the identity
--   inverts_at      where A W is the identity, A (W v) is v
--   other_order     A W = 1 gives W A = 1
--   either_order    the same both ways
--   same-inverse    a matrix has at most one inverse
-- Assumes nothing.
use mathlib.Core.Path.{◌≡◌, refl, sym, ap, ap₂, ◌∙◌, subst}
use mathlib.Core.Bool.{Bool, true, false, cond}
use mathlib.Core.Logic.{◌≢◌}
use Prim.Native.Nat.{ℕ, zero, suc, ◌+◌, ◌*◌, ◌/◌, ◌%◌, ◌^◌, ◌<◌, zero-le, suc-le-suc}
use native.Mathlib.Nat.{mod-lt, zero-lt-suc, le_of_suc-le-suc, not-suc-le-zero, mul-zero, mul-one, div-one}
use native.Mathlib.Omega.{arith}
use lib.Pow.{shr-shr}
use lib.Dec.{eqb}
use borrow.Author.Tests.{eq-eqb, ne_eqb}
use Rattle.bch.proofs.Pigeonhole.{pigeonhole}
use Rattle.staircase.specs.System.{Contents, product, identity, apply}
use Rattle.staircase.specs.Square.{BitMatrix, Inverts, EitherOrder, digit, number}
use Rattle.staircase.proofs.Matrix.{sum_bits-lt, sum_bits-same, sum_bits_one, apply-product, apply-identity}
use Rattle.staircase.proofs.Tabulate.{Binary}

-- ---- vectors of bits as numbers

pub digit-bit : (x k : ℕ) → digit x k < 2
digit-bit x k = mod-lt (x / 2 ^ k) (zero-lt-suc 1)

digit-zero : (x : ℕ) → digit x 0 ≡ x % 2
digit-zero x = ap (λ (z : ℕ). z % 2) (div-one x)

digit-suc : (x k : ℕ) → digit x (suc k) ≡ digit (x / 2) k
digit-suc x k = ap (λ (z : ℕ). x / 2 ^ z % 2) (omega arith) ∙ ap (λ (z : ℕ). z % 2) (sym (shr-shr x 1 k))

pub number-below : (n : ℕ) (v : Contents) → Binary v → number n v < 2 ^ n
unfolding number
number-below zero v h = omega arith
number-below (suc n) v h = omega (arith, h zero, number-below n (λ k. v (suc k)) (λ k. h (suc k)))

pub number_same : (n : ℕ) (u v : Contents) → ((k : ℕ) → k < n → u k ≡ v k) → number n u ≡ number n v
unfolding number
number_same zero u v h = refl
number_same (suc n) u v h =
    ap₂ (λ (x y : ℕ). x + 2 * y) (h zero (suc-le-suc zero-le)) (number_same n (λ k. u (suc k)) (λ k. v (suc k)) (λ k l. h (suc k) (suc-le-suc l)))

pub digit-number : (n : ℕ) (v : Contents) → Binary v → (k : ℕ) → k < n → digit (number n v) k ≡ v k
unfolding number
digit-number zero v h k l = absurd (not-suc-le-zero l)
digit-number (suc n) v h zero l = digit-zero (v zero + 2 * number n (λ k. v (suc k))) ∙ omega (arith, h zero)
digit-number (suc n) v h (suc k) l =
    digit-suc (v zero + 2 * number n (λ j. v (suc j))) k
    ∙ ap (λ (z : ℕ). digit z k) (omega (arith, h zero))
    ∙ digit-number n (λ j. v (suc j)) (λ j. h (suc j)) k (le_of_suc-le-suc l)

pub number_digits : (n x : ℕ) → x < 2 ^ n → number n (digit x) ≡ x
unfolding number
number_digits zero x h = omega arith
number_digits (suc n) x h =
    ap₂ (λ (a b : ℕ). a + 2 * b) (digit-zero x)
    (number_same n (λ k. digit x (suc k)) (digit (x / 2)) (λ k l. digit-suc x k) ∙ number_digits n (x / 2) (omega arith))
    ∙ omega arith

-- a map of vectors that never takes a value twice takes every value
module _ (n : ℕ) (F : Contents → Contents) (bits : (v : Contents) → Binary v → Binary (F v))
    (once : (u v : Contents) → Binary u → Binary v → ((k : ℕ) → k < n → F u k ≡ F v k) → (k : ℕ) → k < n → u k ≡ v k) where
  f : ℕ → ℕ
  f x = number n (F (digit x))

  f_below : (x : ℕ) → x < 2 ^ n → f x < 2 ^ n
  unfolding f
  f_below x h = number-below n (F (digit x)) (bits (digit x) (digit-bit x))

  f_once : (x y : ℕ) → x < 2 ^ n → y < 2 ^ n → f x ≡ f y → x ≡ y
  unfolding f
  f_once x y hx hy e =
      sym (number_digits n x hx)
      ∙ number_same n (digit x) (digit y) (once (digit x) (digit y) (digit-bit x) (digit-bit y) (λ k l.
      sym (digit-number n (F (digit x)) (bits (digit x) (digit-bit x)) k l)
      ∙ ap (λ (z : ℕ). digit z k) e ∙ digit-number n (F (digit y)) (bits (digit y) (digit-bit y)) k l))
      ∙ number_digits n y hy

  pub onto : (v : Contents) → Binary v → (x : ℕ) × (x < 2 ^ n) × ((k : ℕ) → k < n → F (digit x) k ≡ v k)
  unfolding f
  onto v h =
      let t = pigeonhole (2 ^ n) f f_below f_once (number n v) (number-below n v h) in (
        t.0,
        t.1,
        λ k l.
            sym (digit-number n (F (digit t.0)) (bits (digit t.0) (digit-bit t.0)) k l)
            ∙ ap (λ (z : ℕ). digit z k) t.2 ∙ digit-number n v h k l,
      )

-- ---- a matrix at a vector

pub apply-bit : (n : ℕ) (a : ℕ → ℕ → ℕ) (v : Contents) → Binary (apply n a v)
apply-bit n a v i = sum_bits-lt n (λ j. a i j * v j)

pub apply-same : (n : ℕ) (a : ℕ → ℕ → ℕ) (u v : Contents) → ((k : ℕ) → k < n → u k ≡ v k) → (i : ℕ) → apply n a u i ≡ apply n a v i
apply-same n a u v h i = sum_bits-same n (λ j. a i j * u j) (λ j. a i j * v j) (λ j l. ap (λ (z : ℕ). a i j * z) (h j l))

pub identity-same : (j : ℕ) → identity j j ≡ 1
identity-same j = ap (λ (z : Bool). cond z 1 0) (eq-eqb j j refl)

pub identity_other : (i j : ℕ) → i ≢ j → identity i j ≡ 0
identity_other i j d = ap (λ (z : Bool). cond z 1 0) (ne_eqb i j d)

pub identity-bit : (i j : ℕ) → identity i j < 2
identity-bit i j = go (eqb i j)
  where
    go : (z : Bool) → cond z 1 0 < 2
    go true = omega arith
    go false = omega arith

-- a matrix at a column of the identity is that column of the matrix
pub apply-unit : (n : ℕ) (a : ℕ → ℕ → ℕ) → BitMatrix a → (v : Contents) (j : ℕ) → j < n → ((k : ℕ) → k < n → v k ≡ identity k j) → (i : ℕ) → apply n a v i ≡ a i j
apply-unit n a ha v j l h i =
    sum_bits_one n (λ k. a i k * v k) j l (subst (λ (z : ℕ). z < 2) (sym here) (ha i j))
    (λ k m d. ap (λ (z : ℕ). a i k * z) (h k m ∙ identity_other k j d) ∙ mul-zero (a i k))
    ∙ here
  where
    here : a i j * v j ≡ a i j
    here = ap (λ (z : ℕ). a i j * z) (h j l ∙ identity-same j) ∙ mul-one (a i j)

-- ---- either order

-- A (W v) = v
pub inverts_at : (n : ℕ) (a w : ℕ → ℕ → ℕ) → BitMatrix a → BitMatrix w → Inverts n a w → (v : Contents) → Binary v → (i : ℕ) → i < n → apply n a (apply n w v) i ≡ v i
inverts_at n a w ha hw e v hv i l = apply-product n a w v ha hw hv i ∙ apply-identity n (product n a w) v hv i l (λ j m. e i j l m)

pub other_order : (n : ℕ) (a w : ℕ → ℕ → ℕ) → BitMatrix a → BitMatrix w → Inverts n a w → Inverts n w a
unfolding product
other_order n a w ha hw e i j hi hj =
    let t = onto n (apply n w) (λ v h. apply-bit n w v)
    (λ u v hu hv same k l. sym (inverts_at n a w ha hw e u hu k l) ∙ apply-same n a (apply n w u) (apply n w v) same k ∙ inverts_at n a w ha hw e v hv k l)
    (λ k. identity k j) (λ k. identity-bit k j) in
    let u : Contents = digit t.0 in
    let column : (k : ℕ) → k < n → a k j ≡ u k = λ k l.
    sym (apply-unit n a ha (apply n w u) j hj t.2 k) ∙ inverts_at n a w ha hw e u (digit-bit t.0) k l in
    apply-same n w (λ k. a k j) u column i ∙ t.2 i hi

-- "for square matrices over bits A W is the identity exactly when W A is"
pub either_order : EitherOrder
either_order n a w ha hw = (other_order n a w ha hw, other_order n w a hw ha)

-- W = W (A W') = W'
pub same-inverse : (n : ℕ) (a w w₂ : ℕ → ℕ → ℕ) → BitMatrix a → BitMatrix w → BitMatrix w₂ → Inverts n a w → Inverts n a w₂
    → (i j : ℕ) → i < n → j < n → w i j ≡ w₂ i j
unfolding product
same-inverse n a w w₂ ha hw hw₂ e e₂ i j hi hj =
    sym (apply-unit n w hw (apply n a (λ k. w₂ k j)) j hj (λ k l. e₂ k j l hj) i)
    ∙ inverts_at n w a hw ha (other_order n a w ha hw e) (λ k. w₂ k j) (λ k. hw₂ k j) i hi
