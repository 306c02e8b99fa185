-- What additions and exchanges of rows do to pivots, for matrices as functions of row and column.
--   pivots_none      no pivots yet
--   Reduced          row k was added to row `to` where that has a one in column k
--   reduced_zero, reduced_one                      where it has a zero nothing is done, and where it has a one row k is added
--   reduced_other, reduced_kept, reduced_cleared   the other rows; the columns where row k is 0; column k
--   Reducing         a row is 0 in the columns of the first q pivots:         reducing-none, reducing-next
--   Searched         the rows from lo + p to i are 0 in the columns lo to lo + p:  searched-none, searched-next
--   Placing          row lo + p has its pivot, and q rows are 0 in its column:     placing-first, placing-next, placing-all
-- Assumes nothing.
use mathlib.Core.Path.{◌≡◌, refl, sym, ap, ap₂, ◌∙◌}
use mathlib.Core.Bool.{Bool, true, false, cond}
use mathlib.Core.Logic.{◌≢◌}
use Prim.Native.Nat.{ℕ, ◌+◌, ◌*◌, ◌≤◌, ◌<◌}
use native.Mathlib.Nat.{mul-zero, zero-mul, mul-one, one-mul}
use native.Mathlib.Decide.{ℕ_discrete}
use native.Mathlib.Omega.{arith}
use lib.Dec.{eqb}
use borrow.Author.Tests.{eq-eqb, ne_eqb}
use Rattle.staircase.specs.Lists.{bit_sum}
use Rattle.staircase.specs.System.{identity}
use Rattle.staircase.specs.Square.{BitMatrix, Units, Pivots}
use Rattle.staircase.proofs.Matrix.{bit_sum-zero, bit_sum-self}
use Rattle.staircase.proofs.Square.{identity-same, identity_other}
use Rattle.matrix_elimination.proofs.Exchange.{exchanged_row, exchanged_row_left, exchanged_row_right, exchanged_row_other}

pub pivots_none : (n lo : ℕ) (u : ℕ → ℕ → ℕ) → Units n lo u → Pivots n lo 0 u
pivots_none n lo u h = record { units = h; own = λ i j a b. absurd (omega arith) }

-- ---- a row takes row k, where it has a one in column k

abbrev pub Reduced : ℕ → ℕ → ℕ → (ℕ → ℕ → ℕ) → (ℕ → ℕ → ℕ) → Type 0
Reduced n to k u u₂ = (i j : ℕ) → i < n → j < n → u₂ i j ≡ cond (eqb i to) (bit_sum (u i j) (u to k * u k j)) (u i j)

module _ (n to k : ℕ) (u : ℕ → ℕ → ℕ) where
  pub reduced_zero : BitMatrix u → u to k ≡ 0 → Reduced n to k u u
  reduced_zero bits e i j hi hj =
      go (eqb i to) ∙ sym (ap (λ (z : ℕ). cond (eqb i to) (bit_sum (u i j) z) (u i j)) (ap (λ (z : ℕ). z * u k j) e ∙ zero-mul (u k j)))
    where
      go : (z : Bool) → u i j ≡ cond z (bit_sum (u i j) 0) (u i j)
      go true = sym (bit_sum-zero (u i j) (bits i j))
      go false = refl

  pub reduced_one : (u₂ : ℕ → ℕ → ℕ) → u to k ≡ 1
      → ((i j : ℕ) → i < n → j < n → u₂ i j ≡ cond (eqb i to) (bit_sum (u i j) (u k j)) (u i j)) → Reduced n to k u u₂
  reduced_one u₂ e f i j hi hj =
      f i j hi hj ∙ sym (ap (λ (z : ℕ). cond (eqb i to) (bit_sum (u i j) z) (u i j)) (ap (λ (z : ℕ). z * u k j) e ∙ one-mul (u k j)))

module _ (n to k : ℕ) (u u₂ : ℕ → ℕ → ℕ) (bits : BitMatrix u) (f : Reduced n to k u u₂) where
  pub reduced_other : (i j : ℕ) → i < n → j < n → i ≢ to → u₂ i j ≡ u i j
  reduced_other i j hi hj d = f i j hi hj ∙ ap (λ (z : Bool). cond z (bit_sum (u i j) (u to k * u k j)) (u i j)) (ne_eqb i to d)

  reduced_there : (j : ℕ) → to < n → j < n → u₂ to j ≡ bit_sum (u to j) (u to k * u k j)
  reduced_there j ht hj = f to j ht hj ∙ ap (λ (z : Bool). cond z (bit_sum (u to j) (u to k * u k j)) (u to j)) (eq-eqb to to refl)

  pub reduced_kept : (i j : ℕ) → i < n → j < n → u k j ≡ 0 → u₂ i j ≡ u i j
  reduced_kept i j hi hj z = go (ℕ_discrete i to)
    where
      go : Dec (i ≡ to) → u₂ i j ≡ u i j
      go (no d) = reduced_other i j hi hj d
      go (yes e) =
          f i j hi hj
          ∙ ap₂ (λ (y : Bool) (w : ℕ). cond y (bit_sum (u i j) (u to k * w)) (u i j)) (eq-eqb i to e) z
          ∙ ap (bit_sum (u i j)) (mul-zero (u to k))
          ∙ bit_sum-zero (u i j) (bits i j)

  pub reduced_cleared : to < n → k < n → u k k ≡ 1 → u₂ to k ≡ 0
  reduced_cleared ht hk e =
      reduced_there k ht hk ∙ ap (λ (z : ℕ). bit_sum (u to k) (u to k * z)) e ∙ ap (bit_sum (u to k)) (mul-one (u to k)) ∙ bit_sum-self (u to k)

-- ---- row i becomes 0 in the columns of the pivots

pub record Reducing (n lo p i : ℕ) (u₀ : ℕ → ℕ → ℕ) (q : ℕ) (u : ℕ → ℕ → ℕ) : Type 0 where
  pub pivots : Pivots n lo p u
  pub others : (k j : ℕ) → k < n → j < n → k ≢ i → u k j ≡ u₀ k j
  pub zeros : (j : ℕ) → lo ≤ j → j < lo + q → u i j ≡ 0

module _ (n lo p i : ℕ) (u₀ : ℕ → ℕ → ℕ) where
  pub reducing_none : Pivots n lo p u₀ → Reducing n lo p i u₀ 0 u₀
  reducing_none h = record { pivots = h; others = λ k j hk hj d. refl; zeros = λ j a b. absurd (omega arith) }

  pub reducing_next : (q : ℕ) (u u₂ : ℕ → ℕ → ℕ) → BitMatrix u → q < p → lo + p ≤ i → i < n → Reducing n lo p i u₀ q u → Reduced n i (lo + q) u u₂
      → Reducing n lo p i u₀ (q + 1) u₂
  reducing_next q u u₂ bits hq below hi k f = record {
    pivots = record {
      units = λ x j hx hj. kept x j hx (omega arith) (before j hj) ∙ k.pivots.units x j hx hj;
      own = λ x j a b c d. other x j (omega arith) (omega arith) (λ e. omega arith) ∙ k.pivots.own x j a b c d;
    };
    others = λ x j hx hj d. other x j hx hj d ∙ k.others x j hx hj d;
    zeros = λ j a b. go j a b (ℕ_discrete j (lo + q));
  }
    where
      kept : (x j : ℕ) → x < n → j < n → u (lo + q) j ≡ 0 → u₂ x j ≡ u x j
      kept = reduced_kept n i (lo + q) u u₂ bits f

      other : (x j : ℕ) → x < n → j < n → x ≢ i → u₂ x j ≡ u x j
      other = reduced_other n i (lo + q) u u₂ bits f

      -- the pivot row is 0 in the columns before lo
      before : (j : ℕ) → j < lo → u (lo + q) j ≡ 0
      before j h = k.pivots.units (lo + q) j (omega arith) h ∙ identity_other (lo + q) j (λ e. omega arith)

      go : (j : ℕ) → lo ≤ j → j < lo + (q + 1) → Dec (j ≡ lo + q) → u₂ i j ≡ 0
      go j a b (yes e) =
          ap (u₂ i) e
          ∙ reduced_cleared n i (lo + q) u u₂ bits f hi (omega arith)
          (k.pivots.own (lo + q) (lo + q) (omega arith) (omega arith) (omega arith) (omega arith) ∙ identity-same (lo + q))
      go j a b (no d) =
          kept i j hi (omega arith)
          (k.pivots.own (lo + q) j (omega arith) (omega arith) a (omega arith) ∙ identity_other (lo + q) j (λ e. d (sym e)))
          ∙ k.zeros j a (omega arith)

-- ---- the search for a pivot in column lo + p

pub record Searched (n lo p i : ℕ) (u : ℕ → ℕ → ℕ) : Type 0 where
  pub pivots : Pivots n lo p u
  pub none : (x j : ℕ) → lo + p ≤ x → x < i → lo ≤ j → j ≤ lo + p → u x j ≡ 0

module _ (n lo p : ℕ) where
  pub searched_none : (u : ℕ → ℕ → ℕ) → Pivots n lo p u → Searched n lo p (lo + p) u
  searched_none u h = record { pivots = h; none = λ x j a b. absurd (omega arith) }

  pub searched_next : (i : ℕ) (u u₂ : ℕ → ℕ → ℕ) → lo + p < n → i < n → Searched n lo p i u → Pivots n lo p u₂
      → ((k j : ℕ) → k < n → j < n → k ≢ i → u₂ k j ≡ u k j) → ((j : ℕ) → lo ≤ j → j < lo + p → u₂ i j ≡ 0) → u₂ i (lo + p) ≡ 0
      → Searched n lo p (i + 1) u₂
  searched_next i u u₂ hc hi k h others zeros last = record {
    pivots = h;
    none = λ x j a b c d. go x j a b c d (ℕ_discrete x i) (ℕ_discrete j (lo + p));
  }
    where
      go : (x j : ℕ) → lo + p ≤ x → x < i + 1 → lo ≤ j → j ≤ lo + p → Dec (x ≡ i) → Dec (j ≡ lo + p) → u₂ x j ≡ 0
      go x j a b c d (no e) f = others x j (omega arith) (omega arith) e ∙ k.none x j a (omega arith) c d
      go x j a b c d (yes e) (yes f) = ap₂ u₂ e f ∙ last
      go x j a b c d (yes e) (no f) = ap (λ (z : ℕ). u₂ z j) e ∙ zeros j c (omega arith)

-- ---- row lo + p becomes a pivot row

pub record Placing (n lo p q : ℕ) (u : ℕ → ℕ → ℕ) : Type 0 where
  pub pivots : Pivots n lo p u
  pub zeros : (j : ℕ) → lo ≤ j → j < lo + p → u (lo + p) j ≡ 0
  pub one : u (lo + p) (lo + p) ≡ 1
  pub cleared : (x : ℕ) → lo ≤ x → x < lo + q → u x (lo + p) ≡ 0

module _ (n lo p : ℕ) where
  -- rows i and lo + p change places
  pub placing_first : (i : ℕ) (u u₂ : ℕ → ℕ → ℕ) → lo + p ≤ i → i < n → Pivots n lo p u → ((j : ℕ) → lo ≤ j → j < lo + p → u i j ≡ 0)
      → u i (lo + p) ≡ 1 → ((x j : ℕ) → x < n → j < n → u₂ x j ≡ u (exchanged_row i (lo + p) x) j) → Placing n lo p 0 u₂
  placing_first i u u₂ below hi h zeros one f = record {
    pivots = record {
      units = λ x j hx hj. go x j hx hj (ℕ_discrete x i) (ℕ_discrete x (lo + p));
      own = λ x j a b c d. other x j (omega arith) (omega arith) (λ e. omega arith) (λ e. omega arith) ∙ h.own x j a b c d;
    };
    zeros = λ j a b. there j (omega arith) ∙ zeros j a b;
    one = there (lo + p) (omega arith) ∙ one;
    cleared = λ x a b. absurd (omega arith);
  }
    where
      other : (x j : ℕ) → x < n → j < n → x ≢ i → x ≢ lo + p → u₂ x j ≡ u x j
      other x j hx hj d e = f x j hx hj ∙ ap (λ (z : ℕ). u z j) (exchanged_row_other i (lo + p) x d e)

      here : (j : ℕ) → j < n → u₂ i j ≡ u (lo + p) j
      here j hj = f i j hi hj ∙ ap (λ (z : ℕ). u z j) (exchanged_row_left i (lo + p) i refl)

      there : (j : ℕ) → j < n → u₂ (lo + p) j ≡ u i j
      there j hj = go (ℕ_discrete (lo + p) i)
        where
          go : Dec (lo + p ≡ i) → u₂ (lo + p) j ≡ u i j
          go (yes e) = ap (λ (z : ℕ). u₂ z j) e ∙ here j hj ∙ ap (λ (z : ℕ). u z j) e
          go (no d) = f (lo + p) j (omega arith) hj ∙ ap (λ (z : ℕ). u z j) (exchanged_row_right i (lo + p) (lo + p) d refl)

      -- before column lo both rows are 0
      go : (x j : ℕ) → x < n → j < lo → Dec (x ≡ i) → Dec (x ≡ lo + p) → u₂ x j ≡ identity x j
      go x j hx hj (yes e) d =
          ap (λ (z : ℕ). u₂ z j) e ∙ here j (omega arith) ∙ h.units (lo + p) j (omega arith) hj
          ∙ identity_other (lo + p) j (λ z. omega arith) ∙ sym (identity_other x j (λ z. omega arith))
      go x j hx hj (no d) (yes e) =
          ap (λ (z : ℕ). u₂ z j) e ∙ there j (omega arith) ∙ h.units i j hi hj
          ∙ identity_other i j (λ z. omega arith) ∙ sym (identity_other x j (λ z. omega arith))
      go x j hx hj (no d) (no e) = other x j hx (omega arith) d e ∙ h.units x j hx hj

  pub placing_next : (q : ℕ) (u u₂ : ℕ → ℕ → ℕ) → BitMatrix u → lo + p < n → q < p → Placing n lo p q u → Reduced n (lo + q) (lo + p) u u₂
      → Placing n lo p (q + 1) u₂
  placing_next q u u₂ bits hc hq k f = record {
    pivots = record {
      units = λ x j hx hj. kept x j hx (omega arith) (before j hj) ∙ k.pivots.units x j hx hj;
      own = λ x j a b c d. kept x j (omega arith) (omega arith) (k.zeros j c d) ∙ k.pivots.own x j a b c d;
    };
    zeros = λ j a b. other (lo + p) j hc (omega arith) (λ e. omega arith) ∙ k.zeros j a b;
    one = other (lo + p) (lo + p) hc hc (λ e. omega arith) ∙ k.one;
    cleared = λ x a b. go x a b (ℕ_discrete x (lo + q));
  }
    where
      kept : (x j : ℕ) → x < n → j < n → u (lo + p) j ≡ 0 → u₂ x j ≡ u x j
      kept = reduced_kept n (lo + q) (lo + p) u u₂ bits f

      other : (x j : ℕ) → x < n → j < n → x ≢ lo + q → u₂ x j ≡ u x j
      other = reduced_other n (lo + q) (lo + p) u u₂ bits f

      before : (j : ℕ) → j < lo → u (lo + p) j ≡ 0
      before j h = k.pivots.units (lo + p) j hc h ∙ identity_other (lo + p) j (λ e. omega arith)

      go : (x : ℕ) → lo ≤ x → x < lo + (q + 1) → Dec (x ≡ lo + q) → u₂ x (lo + p) ≡ 0
      go x a b (yes e) = ap (λ (z : ℕ). u₂ z (lo + p)) e ∙ reduced_cleared n (lo + q) (lo + p) u u₂ bits f (omega arith) hc k.one
      go x a b (no d) = other x (lo + p) (omega arith) hc d ∙ k.cleared x a (omega arith)

  pub placing_all : (u : ℕ → ℕ → ℕ) → Placing n lo p p u → Pivots n lo (p + 1) u
  placing_all u k = record { units = k.pivots.units; own = λ i j a b c d. go i j a b c d (ℕ_discrete i (lo + p)) (ℕ_discrete j (lo + p)) }
    where
      go : (i j : ℕ) → lo ≤ i → i < lo + (p + 1) → lo ≤ j → j < lo + (p + 1) → Dec (i ≡ lo + p) → Dec (j ≡ lo + p) → u i j ≡ identity i j
      go i j a b c d (yes e) (yes f) = ap₂ u e f ∙ k.one ∙ sym (identity-same (lo + p)) ∙ sym (ap₂ identity e f)
      go i j a b c d (yes e) (no f) = ap (λ (z : ℕ). u z j) e ∙ k.zeros j c (omega arith) ∙ sym (identity_other i j (λ z. omega arith))
      go i j a b c d (no e) (yes f) = ap (u i) f ∙ k.cleared i a (omega arith) ∙ sym (identity_other i j (λ z. omega arith))
      go i j a b c d (no e) (no f) = k.pivots.own i j a (omega arith) c (omega arith)
