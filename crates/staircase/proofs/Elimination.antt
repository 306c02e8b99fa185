-- Elimination on rows: u is what has become of the matrix a, and v of the identity.
--   Reached n a u v     u is v a, and sends no more vectors to 0 than a does
--   Units n k u         the first k columns of u are those of the identity
--   start               before the first step
--   combined            rows that stay are added to rows that do not
--   exchanged           rows are exchanged
--   cleared             after the rows lo to hi are added where the columns lo to hi have ones, these columns are the identity's
--   finished            after n columns v is the inverse, in both orders
--   stuck               column k is the first that is a sum of earlier ones where no row from k on has a one there
-- Assumes nothing.
use mathlib.Core.Path.{◌≡◌, refl, sym, ap, ap₂, ◌∙◌, subst}
use mathlib.Core.Bool.{Bool, true, false, cond, true≢false}
use mathlib.Core.Logic.{◌≢◌, ◌⊎◌, inl, inr}
use Prim.Native.Nat.{ℕ, suc, ◌*◌, ◌≤◌, ◌<◌}
use native.Mathlib.Nat.{mul-zero, zero-mul, mul-one, one-mul}
use native.Mathlib.Decide.{dec_lt}
use native.Mathlib.Omega.{arith}
use lib.Dec.{ltb}
use borrow.Author.Tests.{lt-ltb, le-ltb}
use Rattle.staircase.specs.Lists.{bit_sum, sum_bits, first_where}
use Rattle.staircase.specs.System.{Contents, product, identity, apply}
use Rattle.staircase.specs.Square.{BitMatrix, Inverts, dependent, Reached, Units}
use Rattle.staircase.proofs.Matrix.{bit_sum-zero, bit_sum-self, mul-bit_sum, sum_bits-same, sum_bits-zero, sum_bits-sum, sum_bits_one, apply-product}
use Rattle.staircase.proofs.Search.{first_where-is, bool?}
use Rattle.staircase.proofs.Tabulate.{Binary}
use Rattle.staircase.proofs.Square.{apply-bit, apply-same, identity-bit, identity-same, identity_other, other_order}
use Rattle.staircase.proofs.Columns.{sum_bits_last, sum_bits-tail, apply-sum, last_dependent, row_independent}

-- u plus c u
abbrev pub plus : ℕ → (ℕ → ℕ → ℕ) → (ℕ → ℕ → ℕ) → ℕ → ℕ → ℕ
plus n c u i j = bit_sum (u i j) (product n c u i j)

pub start : (n : ℕ) (a : ℕ → ℕ → ℕ) → BitMatrix a → Reached n a a identity
unfolding product
start n a ha = record {
  rows = λ i j hi hj. sym (
      sum_bits_one n (λ k. identity i k * a k j) i hi
      (subst (λ (z : ℕ). z < 2) (sym (ap (λ (z : ℕ). z * a i j) (identity-same i) ∙ one-mul (a i j))) (ha i j))
      (λ k l d. ap (λ (z : ℕ). z * a k j) (identity_other i k (λ e. d (sym e))) ∙ zero-mul (a k j))
      ∙ ap (λ (z : ℕ). z * a i j) (identity-same i) ∙ one-mul (a i j));
  kernel = λ x hx z. z;
}

-- ---- rows that stay are added to rows that do not

module _ (n : ℕ) (a u v c : ℕ → ℕ → ℕ) (ha : BitMatrix a) (hu : BitMatrix u) (hv : BitMatrix v) (hc : BitMatrix c)
    (stay : (i q s : ℕ) → i < n → q < n → s < n → c i q * c q s ≡ 0) where
  -- (1 + c) (1 + c) = 1: what u + c u sends to 0, u does
  plus-at : (x : Contents) → Binary x → (i : ℕ) → apply n (plus n c u) x i ≡ bit_sum (apply n u x i) (apply n c (apply n u x) i)
  unfolding product
  plus-at x hx i =
      sum_bits-same n (λ j. plus n c u i j * x j) (λ j. bit_sum (u i j * x j) (product n c u i j * x j)) (λ j l.
      omega (arith, mul-bit_sum (x j) (u i j) (product n c u i j) (hx j)))
      ∙ sum_bits-sum n (λ j. u i j * x j) (λ j. product n c u i j * x j)
      ∙ ap (bit_sum (apply n u x i)) (sym (apply-product n c u x hc hu hx i))

  twice : (z : Contents) → Binary z → (i : ℕ) → i < n → apply n c (apply n c z) i ≡ 0
  unfolding product
  twice z hz i l =
      apply-product n c c z hc hc hz i
      ∙ sum_bits-zero n (λ s. product n c c i s * z s) (λ s m.
      ap (λ (y : ℕ). y * z s) (sum_bits-zero n (λ q. c i q * c q s) (λ q p. stay i q s l p m)) ∙ zero-mul (z s))

  pub combined : Reached n a u v → Reached n a (plus n c u) (plus n c v)
  unfolding product
  combined k = record {
    rows = λ i j hi hj.
        ap₂ bit_sum (k.rows i j hi hj)
        (apply-same n c (λ q. u q j) (apply n v (λ p. a p j)) (λ q l. k.rows q j l hj) i ∙ apply-product n c v (λ p. a p j) hc hv (λ p. ha p j) i)
        ∙ sym (sum_bits-sum n (λ p. v i p * a p j) (λ p. product n c v i p * a p j))
        ∙ sum_bits-same n (λ p. bit_sum (v i p * a p j) (product n c v i p * a p j)) (λ p. plus n c v i p * a p j) (λ p l.
        omega (arith, mul-bit_sum (a p j) (v i p) (product n c v i p) (ha p j)));
    kernel = λ x hx z. k.kernel x hx (λ i l.
        let w : Contents = apply n u x in
        let hw : Binary w = apply-bit n u x in
        -- c (w + c w) = c w, and w + c w is 0
        let moved : apply n c w i ≡ 0 =
        sym (apply-sum n c hc w (apply n c w) i
        ∙ ap (bit_sum (apply n c w i)) (twice w hw i l) ∙ bit_sum-zero (apply n c w i) (apply-bit n c w i))
        ∙ sum_bits-zero n (λ q. c i q * bit_sum (w q) (apply n c w q)) (λ q m. ap (λ (y : ℕ). c i q * y) (sym (plus-at x hx q) ∙ z q m) ∙ mul-zero (c i q)) in
        sym (bit_sum-zero (w i) (hw i)) ∙ ap (bit_sum (w i)) (sym moved) ∙ sym (plus-at x hx i) ∙ z i l);
  }

-- ---- rows are exchanged

pub exchanged : (n : ℕ) (a u v : ℕ → ℕ → ℕ) (to from : ℕ → ℕ) → ((i : ℕ) → i < n → to i < n) → ((i : ℕ) → i < n → (from i < n) × (to (from i) ≡ i))
    → Reached n a u v → Reached n a (λ i j. u (to i) j) (λ i j. v (to i) j)
unfolding product
exchanged n a u v to from below back k = record {
  rows = λ i j hi hj. k.rows (to i) j (below i hi) hj;
  kernel = λ x hx z. k.kernel x hx (λ i l. ap (λ (q : ℕ). apply n u x q) (sym (back i l).1) ∙ z (from i) (back i l).0);
}

-- ---- columns lo to hi are cleared by the rows lo to hi

-- the ones of those columns, in the other rows; `inside` is the test for lo to hi
abbrev pub clearing : (ℕ → Bool) → (ℕ → ℕ → ℕ) → ℕ → ℕ → ℕ
clearing inside u i q = cond (inside q) (cond (inside i) 0 (u i q)) 0

module _ (n lo hi : ℕ) (u : ℕ → ℕ → ℕ) (inside : ℕ → Bool) (hu : BitMatrix u) (order : hi ≤ n)
    (within : (q : ℕ) → lo ≤ q → q < hi → inside q ≡ true) (before : (q : ℕ) → q < lo → inside q ≡ false) (after : (q : ℕ) → hi ≤ q → inside q ≡ false)
    (units : Units n lo u) (own : (i j : ℕ) → lo ≤ i → i < hi → lo ≤ j → j < hi → u i j ≡ identity i j) where
  pub clearing_bit : BitMatrix (clearing inside u)
  clearing_bit i q = go (inside q) (inside i)
    where
      go : (y z : Bool) → cond y (cond z 0 (u i q)) 0 < 2
      go true true = omega arith
      go true false = hu i q
      go false z = omega arith

  pub clearing_stay : (i q s : ℕ) → clearing inside u i q * clearing inside u q s ≡ 0
  clearing_stay i q s = go (inside q) (inside i) (inside s)
    where
      go : (y z x : Bool) → cond y (cond z 0 (u i q)) 0 * cond x (cond y 0 (u q s)) 0 ≡ 0
      go true z true = mul-zero (cond z 0 (u i q))
      go true z false = mul-zero (cond z 0 (u i q))
      go false z x = zero-mul (cond x (cond false 0 (u q s)) 0)

  in-range : (q : ℕ) → inside q ≡ true → (lo ≤ q) × (q < hi)
  in-range q e = go (dec_lt q lo) (dec_lt q hi)
    where
      go : Dec (q < lo) → Dec (q < hi) → (lo ≤ q) × (q < hi)
      go (yes l) d = absurd (true≢false (sym e ∙ before q l))
      go (no l) (yes d) = (omega arith, d)
      go (no l) (no d) = absurd (true≢false (sym e ∙ after q (omega arith)))

  row_kept : (i : ℕ) → inside i ≡ true → (j : ℕ) → product n (clearing inside u) u i j ≡ 0
  unfolding product
  row_kept i e j = sum_bits-zero n (λ q. clearing inside u i q * u q j) (λ q l. go q (inside q))
    where
      go : (q : ℕ) (z : Bool) → cond z (cond (inside i) 0 (u i q)) 0 * u q j ≡ 0
      go q true = ap (λ (y : Bool). cond y 0 (u i q) * u q j) e ∙ zero-mul (u q j)
      go q false = zero-mul (u q j)

  -- the sum that a row outside takes, in an earlier column and in a column from lo to hi
  taken_zero : (i j : ℕ) → j < lo → product n (clearing inside u) u i j ≡ 0
  unfolding product
  taken_zero i j l = sum_bits-zero n (λ q. clearing inside u i q * u q j) (λ q m. go q m (inside q) refl)
    where
      go : (q : ℕ) → q < n → (z : Bool) → inside q ≡ z → cond z (cond (inside i) 0 (u i q)) 0 * u q j ≡ 0
      go q m true e =
          ap (λ (y : ℕ). cond (inside i) 0 (u i q) * y) (units q j m l ∙ identity_other q j (λ d. omega (arith, in-range q e, l, d)))
          ∙ mul-zero (cond (inside i) 0 (u i q))
      go q m false e = zero-mul (u q j)

  taken_own : (i j : ℕ) → inside i ≡ false → lo ≤ j → j < hi → product n (clearing inside u) u i j ≡ u i j
  unfolding product
  taken_own i j e l h =
      sum_bits_one n (λ q. clearing inside u i q * u q j) j (omega (arith, h, order)) (subst (λ (z : ℕ). z < 2) (sym here) (hu i j))
      (λ q m d. go q m d (inside q) refl)
      ∙ here
    where
      here : clearing inside u i j * u j j ≡ u i j
      here = ap₂ (λ (x y : Bool). cond x (cond y 0 (u i j)) 0 * u j j) (within j l h) e ∙ ap (λ (z : ℕ). u i j * z) (own j j l h l h ∙ identity-same j) ∙ mul-one (u i j)

      go : (q : ℕ) → q < n → q ≢ j → (z : Bool) → inside q ≡ z → cond z (cond (inside i) 0 (u i q)) 0 * u q j ≡ 0
      go q m d true f =
          ap (λ (y : ℕ). cond (inside i) 0 (u i q) * y) (own q j (in-range q f).0 (in-range q f).1 l h ∙ identity_other q j d)
          ∙ mul-zero (cond (inside i) 0 (u i q))
      go q m d false f = zero-mul (u q j)

  pub cleared : Units n hi (plus n (clearing inside u) u)
  cleared i j hi' hj = at (bool? (inside i)) (dec_lt j lo)
    where
      at : (inside i ≡ true) ⊎ (inside i ≡ false) → Dec (j < lo) → plus n (clearing inside u) u i j ≡ identity i j
      at s (yes l) = ap (bit_sum (u i j)) (taken_zero i j l) ∙ bit_sum-zero (u i j) (hu i j) ∙ units i j hi' l
      at (inl e) (no l) =
          ap (bit_sum (u i j)) (row_kept i e j) ∙ bit_sum-zero (u i j) (hu i j) ∙ own i j (in-range i e).0 (in-range i e).1 (omega arith) hj
      at (inr e) (no l) =
          ap (bit_sum (u i j)) (taken_own i j e (omega arith) hj) ∙ bit_sum-self (u i j)
          ∙ sym (identity_other i j (λ d. true≢false (sym (within j (omega arith) hj) ∙ ap inside (sym d) ∙ e)))

-- ---- the end

module _ (n : ℕ) (a u v : ℕ → ℕ → ℕ) (ha : BitMatrix a) (hu : BitMatrix u) (hv : BitMatrix v) (k : Reached n a u v) where
  pub finished : Units n n u → Inverts n a v × Inverts n v a
  finished e =
      let left : Inverts n v a = λ i j hi hj. sym (k.rows i j hi hj) ∙ e i j hi hj in
      (other_order n v a hv ha left, left)

  module _ (m : ℕ) (below : m < n) (units : Units n m u) where
    -- no earlier column is a sum of earlier ones
    pub early : (j : ℕ) → j < m → dependent n a j ≡ false
    unfolding product
    early j l =
        row_independent n a j (v j) (hv j)
        (λ q h. sym (k.rows j q (omega (arith, l, below)) (omega (arith, h, l, below))) ∙ units j q (omega (arith, l, below)) (omega (arith, h, l)) ∙ identity_other j q (λ d. omega (arith, h, d)))
        (sym (k.rows j j (omega (arith, l, below)) (omega (arith, l, below))) ∙ units j j (omega (arith, l, below)) l ∙ identity-same j)

    module _ (none : (i : ℕ) → m ≤ i → i < n → u i m ≡ 0) where
      -- column m of u, as far as m, then a one
      x : Contents
      x q = cond (ltb q m) (u q m) (identity q m)

      x_bit : Binary x
      unfolding x
      x_bit q = go (ltb q m)
        where
          go : (z : Bool) → cond z (u q m) (identity q m) < 2
          go true = hu q m
          go false = identity-bit q m

      x_before : (q : ℕ) → q < m → x q ≡ u q m
      unfolding x
      x_before q l = ap (λ (z : Bool). cond z (u q m) (identity q m)) (lt-ltb q m l)

      x_from : (q : ℕ) → m ≤ q → x q ≡ identity q m
      unfolding x
      x_from q l = ap (λ (z : Bool). cond z (u q m) (identity q m)) (le-ltb q m l)

      front : (i : ℕ) → i < n → sum_bits m (λ q. u i q * x q) ≡ u i m
      front i l = at (dec_lt i m)
        where
          there : i < m → u i i * x i ≡ u i m
          there h = ap₂ (λ (y z : ℕ). y * z) (units i i l h ∙ identity-same i) (x_before i h) ∙ one-mul (u i m)

          at : Dec (i < m) → sum_bits m (λ q. u i q * x q) ≡ u i m
          at (yes h) =
              sum_bits_one m (λ q. u i q * x q) i h (subst (λ (z : ℕ). z < 2) (sym (there h)) (hu i m))
              (λ q p d. ap (λ (y : ℕ). y * x q) (units i q l p ∙ identity_other i q (λ e. d (sym e))) ∙ zero-mul (x q))
              ∙ there h
          at (no h) =
              sum_bits-zero m (λ q. u i q * x q) (λ q p. ap (λ (y : ℕ). y * x q) (units i q l p ∙ identity_other i q (λ e. omega (arith, p, e, h))) ∙ zero-mul (x q))
              ∙ sym (none i (omega arith) l)

      sent-zero : (i : ℕ) → i < n → apply n u x i ≡ 0
      sent-zero i l =
          sum_bits-tail (suc m) n (λ q. u i q * x q) below
          (λ q p h. ap (λ (y : ℕ). u i q * y) (x_from q (omega (arith, p)) ∙ identity_other q m (λ d. omega (arith, p, d))) ∙ mul-zero (u i q))
          ∙ sum_bits_last m (λ q. u i q * x q)
          ∙ ap₂ bit_sum (front i l) (ap (λ (y : ℕ). u i m * y) (x_from m (omega arith) ∙ identity-same m) ∙ mul-one (u i m))
          ∙ bit_sum-self (u i m)

      -- "the first column of A that is a sum of earlier columns"
      pub stuck : first_where n (dependent n a) ≡ m
      stuck =
          first_where-is n (dependent n a) m below
          (last_dependent n a ha x x_bit (k.kernel x x_bit sent-zero) m below (x_from m (omega arith) ∙ identity-same m)
          (λ q p h. x_from q (omega (arith, p)) ∙ identity_other q m (λ d. omega (arith, p, d))))
          early
