-- Columns that are sums of earlier ones: a square matrix of bits has an inverse exactly when no column is.
--   sum_bits_last, sum_bits-tail        the last term; terms that are 0
--   apply-sum                         a matrix at a sum
--   sends_to-true, sends_to-at          what a search over vectors finds
--   dependent_of, dependent-sum       a column is a sum of earlier ones
--   last_dependent, row_independent   when it is, and when it is not
--   independent_inverse               no column is: `inverse_matrix` is the inverse
--   inverse_independent               there is an inverse: no column is
--   inverse-is                        what inverts the matrix is `inverse_matrix`
--   dependent-same, inverse-same      only the n × n entries count
-- Assumes nothing.
use mathlib.Core.Path.{◌≡◌, refl, sym, ap, ap₂, ◌∙◌}
use mathlib.Core.Bool.{Bool, true, false, not, true≢false}
use mathlib.Core.Logic.{◌≢◌, ◌↔◌}
use Prim.Native.Nat.{ℕ, zero, suc, ◌*◌, ◌^◌, ◌≤◌, ◌<◌, zero-le, suc-le-suc}
use native.Mathlib.Nat.{le_of_suc-le-suc, not-suc-le-zero, mul-one, mul-zero}
use native.Mathlib.Decide.{ℕ_discrete}
use native.Mathlib.Omega.{arith}
use lib.Dec.{eqb, ltb}
use borrow.Author.Tests.{eq-eqb, eqb-true, not-false, lt-ltb, le-ltb, ltb-true, ltb-false}
use Rattle.staircase.specs.Lists.{bit_sum, sum_bits, first_where}
use Rattle.staircase.specs.System.{Contents, product, identity, apply}
use Rattle.staircase.specs.Square.{BitMatrix, Inverts, digit, number, misses, sends_to, dependent, inverse_matrix}
use Rattle.staircase.proofs.Matrix.{bit_sum_comm, bit_sum_assoc, bit_sum_equal, mul-bit_sum, sum_bits-lt, sum_bits-same, sum_bits-zero, sum_bits-sum, sum_bits-mul, sum_bits_swap}
use Rattle.staircase.proofs.Search.{first_where_found, first_where-none, first_where-before, first_where_holds, first_where-same}
use Rattle.staircase.proofs.Tabulate.{Binary}
use Rattle.staircase.proofs.Square.{digit-bit, number-below, digit-number, onto, apply-bit, identity-bit, identity-same, identity_other, other_order, same-inverse}

-- ---- sums

pub sum_bits_last : (n : ℕ) (f : ℕ → ℕ) → sum_bits (suc n) f ≡ bit_sum (sum_bits n f) (f n)
unfolding sum_bits
sum_bits_last zero f = bit_sum_comm (f zero) 0
sum_bits_last (suc n) f = ap (bit_sum (f zero)) (sum_bits_last n (λ k. f (suc k))) ∙ sym (bit_sum_assoc (f zero) (sum_bits n (λ k. f (suc k))) (f (suc n)))

pub sum_bits-tail : (m n : ℕ) (f : ℕ → ℕ) → m ≤ n → ((k : ℕ) → m ≤ k → k < n → f k ≡ 0) → sum_bits n f ≡ sum_bits m f
unfolding sum_bits
sum_bits-tail zero n f h z = sum_bits-zero n f (λ k. z k zero-le)
sum_bits-tail (suc m) zero f h z = absurd (not-suc-le-zero h)
sum_bits-tail (suc m) (suc n) f h z =
    ap (bit_sum (f zero)) (sum_bits-tail m n (λ k. f (suc k)) (le_of_suc-le-suc h) (λ k a b. z (suc k) (suc-le-suc a) (suc-le-suc b)))

pub apply-sum : (n : ℕ) (a : ℕ → ℕ → ℕ) → BitMatrix a → (u v : Contents) (i : ℕ)
    → apply n a (λ k. bit_sum (u k) (v k)) i ≡ bit_sum (apply n a u i) (apply n a v i)
apply-sum n a ha u v i =
    sum_bits-same n (λ k. a i k * bit_sum (u k) (v k)) (λ k. bit_sum (a i k * u k) (a i k * v k)) (λ k l. mul-bit_sum (a i k) (u k) (v k) (ha i k))
    ∙ sum_bits-sum n (λ k. a i k * u k) (λ k. a i k * v k)

-- ---- what a search over vectors finds

not-true : (z : Bool) → not z ≡ true → z ≡ false
not-true true e = absurd (true≢false (sym e))
not-true false e = refl

module _ (n m : ℕ) (a : ℕ → ℕ → ℕ) (v : Contents) (x : ℕ) where
  pub sends_to-true : ((i : ℕ) → i < n → sum_bits m (λ k. a i k * digit x k) ≡ v i) → sends_to n m a v x ≡ true
  unfolding sends_to misses
  sends_to-true h =
      let none = first_where-none n (misses m a v x) (λ i l. ap not (eq-eqb (sum_bits m (λ k. a i k * digit x k)) (v i) (h i l))) in
      ap not (le-ltb (first_where n (misses m a v x)) n (omega (arith, none)))

  pub sends_to-at : sends_to n m a v x ≡ true → (i : ℕ) → i < n → sum_bits m (λ k. a i k * digit x k) ≡ v i
  unfolding sends_to misses
  sends_to-at e i l =
      let past = ltb-false (first_where n (misses m a v x)) n (not-true (ltb (first_where n (misses m a v x)) n) e) in
      eqb-true (sum_bits m (λ k. a i k * digit x k)) (v i)
      (not-false (eqb (sum_bits m (λ k. a i k * digit x k)) (v i)) (first_where-before n (misses m a v x) i (omega (arith, past))))

-- ---- a column is a sum of earlier ones

module _ (n : ℕ) (a : ℕ → ℕ → ℕ) (j : ℕ) where
  pub dependent_of : (v : Contents) → Binary v → ((i : ℕ) → i < n → sum_bits j (λ k. a i k * v k) ≡ a i j) → dependent n a j ≡ true
  unfolding dependent
  dependent_of v hv h =
      let x : ℕ = number j v in
      let hx : x < 2 ^ j = number-below j v hv in
      let found = first_where_found (2 ^ j) (sends_to n j a (λ i. a i j)) x hx (sends_to-true n j a (λ i. a i j) x (λ i l.
      sum_bits-same j (λ k. a i k * digit x k) (λ k. a i k * v k) (λ k m. ap (λ (z : ℕ). a i k * z) (digit-number j v hv k m)) ∙ h i l)) in
      lt-ltb (first_where (2 ^ j) (sends_to n j a (λ i. a i j))) (2 ^ j) (omega (arith, found.0, hx))

  pub dependent-sum : dependent n a j ≡ true → (x : ℕ) × ((i : ℕ) → i < n → sum_bits j (λ k. a i k * digit x k) ≡ a i j)
  unfolding dependent
  dependent-sum e =
      let x : ℕ = first_where (2 ^ j) (sends_to n j a (λ i. a i j)) in
      (x, sends_to-at n j a (λ i. a i j) x (first_where_holds (2 ^ j) (sends_to n j a (λ i. a i j)) (ltb-true x (2 ^ j) e)))

-- a vector that the matrix sends to 0 makes its last column a sum of earlier ones
pub last_dependent : (n : ℕ) (a : ℕ → ℕ → ℕ) → BitMatrix a → (v : Contents) → Binary v → ((i : ℕ) → i < n → apply n a v i ≡ 0) → (j : ℕ) → j < n → v j ≡ 1
    → ((k : ℕ) → suc j ≤ k → k < n → v k ≡ 0) → dependent n a j ≡ true
last_dependent n a ha v hv z j l e tail =
    dependent_of n a j v hv (λ i m.
    bit_sum_equal (sum_bits j (λ k. a i k * v k)) (a i j) (sum_bits-lt j (λ k. a i k * v k)) (ha i j)
    (ap (bit_sum (sum_bits j (λ k. a i k * v k))) (sym (ap (λ (y : ℕ). a i j * y) e ∙ mul-one (a i j)))
    ∙ sym (sum_bits_last j (λ k. a i k * v k))
    ∙ sym (sum_bits-tail (suc j) n (λ k. a i k * v k) l (λ k p q. ap (λ (y : ℕ). a i k * y) (tail k p q) ∙ mul-zero (a i k)))
    ∙ z i m))

-- a sum of rows that is 0 in the earlier columns and 1 in column j: it is no sum of them
pub row_independent : (n : ℕ) (a : ℕ → ℕ → ℕ) (j : ℕ) (row : Contents) → Binary row → ((k : ℕ) → k < j → sum_bits n (λ i. row i * a i k) ≡ 0)
    → sum_bits n (λ i. row i * a i j) ≡ 1 → dependent n a j ≡ false
row_independent n a j row hr zeros one = go (dependent n a j) refl
  where
    clash : (x : ℕ) → ((i : ℕ) → i < n → sum_bits j (λ k. a i k * digit x k) ≡ a i j) → ◌≡◌ {A = ℕ} 0 1
    clash x h =
        sym (sum_bits-zero j (λ k. digit x k * sum_bits n (λ i. row i * a i k)) (λ k m. ap (λ (y : ℕ). digit x k * y) (zeros k m) ∙ mul-zero (digit x k)))
        ∙ sum_bits-same j (λ k. digit x k * sum_bits n (λ i. row i * a i k)) (λ k. sum_bits n (λ i. row i * (a i k * digit x k))) (λ k m.
        sum_bits-mul n (digit x k) (λ i. row i * a i k) (digit-bit x k)
        ∙ sum_bits-same n (λ i. digit x k * (row i * a i k)) (λ i. row i * (a i k * digit x k)) (λ i p. omega arith))
        ∙ sum_bits_swap j n (λ k i. row i * (a i k * digit x k))
        ∙ sum_bits-same n (λ i. sum_bits j (λ k. row i * (a i k * digit x k))) (λ i. row i * a i j) (λ i m.
        sym (sum_bits-mul j (row i) (λ k. a i k * digit x k) (hr i)) ∙ ap (λ (y : ℕ). row i * y) (h i m))
        ∙ one

    go : (z : Bool) → dependent n a j ≡ z → dependent n a j ≡ false
    go false d = d
    go true d = let t = dependent-sum n a j d in absurd (omega (arith, clash t.0 t.1))

-- ---- no column is a sum of earlier ones: there is an inverse

module _ (n : ℕ) (a : ℕ → ℕ → ℕ) (ha : BitMatrix a) (free : (j : ℕ) → j < n → dependent n a j ≡ false) where
  -- the last entry of a vector that a sends to 0
  last_zero : (v : Contents) → Binary v → ((i : ℕ) → i < n → apply n a v i ≡ 0) → (j : ℕ) → j < n → ((k : ℕ) → suc j ≤ k → k < n → v k ≡ 0) → v j ≡ 0
  last_zero v hv z j l tail = go (ℕ_discrete (v j) 0)
    where
      go : Dec (v j ≡ 0) → v j ≡ 0
      go (yes e) = e
      go (no d) = absurd (true≢false (sym (last_dependent n a ha v hv z j l (omega (arith, hv j, d)) tail) ∙ free j l))

  all-zero : (v : Contents) → Binary v → ((i : ℕ) → i < n → apply n a v i ≡ 0) → (m : ℕ) → m ≤ n → ((k : ℕ) → m ≤ k → k < n → v k ≡ 0) → (k : ℕ) → k < n → v k ≡ 0
  all-zero v hv z zero h tail k l = tail k zero-le l
  all-zero v hv z (suc j) h tail k l = all-zero v hv z j (omega (arith, h)) (λ p q s. more p q s (ℕ_discrete p j)) k l
    where
      more : (p : ℕ) → j ≤ p → p < n → Dec (p ≡ j) → v p ≡ 0
      more p q s (yes e) = ap v e ∙ last_zero v hv z j h tail
      more p q s (no d) = tail p (omega (arith, q, d)) s

  -- a never takes a value twice
  once : (u v : Contents) → Binary u → Binary v → ((k : ℕ) → k < n → apply n a u k ≡ apply n a v k) → (k : ℕ) → k < n → u k ≡ v k
  once u v hu hv same k l =
      bit_sum_equal (u k) (v k) (hu k) (hv k)
      (all-zero (λ p. bit_sum (u p) (v p)) (λ p. omega arith)
      (λ i m. apply-sum n a ha u v i ∙ ap (λ (y : ℕ). bit_sum y (apply n a v i)) (same i m) ∙ omega arith) n (omega arith) (λ p q s. absurd (omega (arith, q, s))) k l)

  pub independent_inverse : Inverts n a (inverse_matrix n a)
  unfolding product inverse_matrix
  independent_inverse i j hi hj =
      let t = onto n (apply n a) (λ v h. apply-bit n a v) once (λ k. identity k j) (λ k. identity-bit k j) in
      let f : ℕ → Bool = sends_to n n a (λ k. identity k j) in
      let found = first_where_found (2 ^ n) f t.0 t.1 (sends_to-true n n a (λ k. identity k j) t.0 t.2) in
      sends_to-at n n a (λ k. identity k j) (first_where (2 ^ n) f) found.1 i hi

-- ---- there is an inverse: no column is a sum of earlier ones

pub inverse_independent : (n : ℕ) (a w : ℕ → ℕ → ℕ) → BitMatrix a → BitMatrix w → Inverts n a w → (j : ℕ) → j < n → dependent n a j ≡ false
unfolding product
inverse_independent n a w ha hw e j l =
    row_independent n a j (w j) (hw j)
    (λ k m. other_order n a w ha hw e j k l (omega (arith, m, l)) ∙ identity_other j k (λ d. omega (arith, m, d)))
    (other_order n a w ha hw e j j l l ∙ identity-same j)

-- what inverts the matrix is `inverse_matrix`
pub inverse-is : (n : ℕ) (a w : ℕ → ℕ → ℕ) → BitMatrix a → BitMatrix w → Inverts n a w → (i j : ℕ) → i < n → j < n → w i j ≡ inverse_matrix n a i j
unfolding inverse_matrix
inverse-is n a w ha hw e i j hi hj =
    same-inverse n a w (inverse_matrix n a) ha hw (λ p q. digit-bit (first_where (2 ^ n) (sends_to n n a (λ k. identity k q))) p) e
    (independent_inverse n a ha (inverse_independent n a w ha hw e)) i j hi hj

-- "refuses for want of an inverse precisely when A has none"
pub has_inverse : (n : ℕ) (a : ℕ → ℕ → ℕ) → BitMatrix a
    → ((j : ℕ) → j < n → dependent n a j ≡ false) ↔ ((w : ℕ → ℕ → ℕ) × BitMatrix w × Inverts n a w × Inverts n w a)
unfolding inverse_matrix
has_inverse n a ha = (
  λ free. (
    inverse_matrix n a,
    λ p q. digit-bit (first_where (2 ^ n) (sends_to n n a (λ k. identity k q))) p,
    independent_inverse n a ha free,
    other_order n a (inverse_matrix n a) ha (λ p q. digit-bit (first_where (2 ^ n) (sends_to n n a (λ k. identity k q))) p) (independent_inverse n a ha free),
  ),
  λ t. inverse_independent n a t.0 ha t.1 t.2,
)

-- ---- only the n × n entries count

module _ (n : ℕ) (a b : ℕ → ℕ → ℕ) (same : (i j : ℕ) → i < n → j < n → a i j ≡ b i j) where
  sends_to-same : (m : ℕ) → m ≤ n → (u v : Contents) → ((i : ℕ) → i < n → u i ≡ v i) → (x : ℕ) → sends_to n m a u x ≡ sends_to n m b v x
  unfolding sends_to misses
  sends_to-same m h u v target x =
      ap (λ (z : ℕ). not (ltb z n)) (first_where-same n (misses m a u x) (misses m b v x) (λ i l.
      ap₂ (λ (y z : ℕ). not (eqb y z))
      (sum_bits-same m (λ k. a i k * digit x k) (λ k. b i k * digit x k) (λ k p. ap (λ (z : ℕ). z * digit x k) (same i k l (omega (arith, p, h)))))
      (target i l)))

  pub dependent-same : (j : ℕ) → j < n → dependent n a j ≡ dependent n b j
  unfolding dependent
  dependent-same j l =
      ap (λ (z : ℕ). ltb z (2 ^ j))
      (first_where-same (2 ^ j) (sends_to n j a (λ i. a i j)) (sends_to n j b (λ i. b i j)) (λ x p.
      sends_to-same j (omega (arith, l)) (λ i. a i j) (λ i. b i j) (λ i h. same i j h l) x))

  pub inverse-same : (i j : ℕ) → inverse_matrix n a i j ≡ inverse_matrix n b i j
  unfolding inverse_matrix
  inverse-same i j =
      ap (λ (z : ℕ). digit z i)
      (first_where-same (2 ^ n) (sends_to n n a (λ k. identity k j)) (sends_to n n b (λ k. identity k j)) (λ x p.
      sends_to-same n (omega arith) (λ k. identity k j) (λ k. identity k j) (λ k h. refl) x))
