-- The minimal polynomials.
--   minimals   the minimal polynomials as numbers
--   Fits       what rule 2 leaves of m and t
--   minimal    they are the least polynomials with their roots, of degree m: one computed test over 21 polynomials. A polynomial that takes
--              power i of the root to the root shows that no smaller one vanishes there.
-- Assumes nothing.
use mathlib.Core.Path.{◌≡◌, refl, sym, ap, ap₂, ◌∙◌, subst⁻¹}
use mathlib.Core.Bool.{Bool, ◌&&◌, ◌||◌}
use mathlib.Core.List.{List, [], ◌∷◌}
use Prim.Native.Nat.{ℕ, suc, ◌+◌, ◌-◌, ◌*◌, ◌/◌, ◌^◌, ◌≤◌, ◌<◌, zero-le}
use native.Mathlib.Nat.{le_trans, div-eq_of_lt-le}
use native.Mathlib.Decide.{dec_lt}
use native.Mathlib.Omega.{arith}
use lib.Pow.{pow_mono, pow-add}
use lib.Dec.{T, eqb, leb, eqb→eq, leb→le}
use lib.Ieee.Fits.{and_l, and_r}
use lib.ListN.{get_or}
use Rattle.bch.specs.Polynomial.{◌⊕◌, times_x, iterate, poly_at, poly_at_digits}
use Rattle.bch.specs.Field.{field_poly, value_at}
use Rattle.bch.specs.Code.{least_from, minimal_poly}
use Rattle.bch.proofs.Tests.{or_r, all_from, all-from, least_is}
use Rattle.bch.proofs.Sum.{⊕-self, ⊕_equal, ⊕_shift}
use Rattle.bch.proofs.Polynomial.{poly_at-zero, poly_at-sum}
use Rattle.bch.proofs.Modulus.{below_of_quotient, degree_high, degree_low}
use Rattle.bch.proofs.PowerSum.{linear_bits}

-- a linear map that keeps the powers of 2 keeps every number
keeps : (K : ℕ → ℕ) → ((a b : ℕ) → K (a ⊕ b) ≡ K a ⊕ K b) → (m : ℕ) → ((k : ℕ) → k < m → K (2 ^ k) ≡ 2 ^ k) → (p : ℕ) → p < 2 ^ m → K p ≡ p
keeps K lin m h p l = linear_bits m K lin (λ k. 2 ^ k) h p l ∙ sym (linear_bits m (λ v. v) (λ a b. refl) (λ k. 2 ^ k) (λ k l. refl) p l)

-- ---- a polynomial c of degree m that is 0 at X, and no polynomial of a lower degree is, is the least
-- X undone: v as a polynomial in the product with q modulo c
undo : (c q m v : ℕ) → ℕ
undo c q m v = poly_at (poly_at (times_x c m) q) v 1

module _ (X : ℕ → ℕ) (m c q : ℕ) (pos : 0 < m) (deg : c / 2 ^ m ≡ 1) (zero-at : poly_at X c 1 ≡ 0)
    (undone : (k : ℕ) → k < m → undo c q m (poly_at X (2 ^ k) 1) ≡ 2 ^ k) where
  undo_all : (p : ℕ) → p < 2 ^ m → undo c q m (poly_at X p 1) ≡ p
  unfolding undo
  undo_all =
      keeps (λ p. undo c q m (poly_at X p 1))
      (λ a b. ap (undo c q m) (poly_at-sum X a b 1) ∙ poly_at-sum (poly_at (times_x c m) q) (poly_at X a 1) (poly_at X b 1) 1)
      m undone

  no_root : (p : ℕ) → p < 2 ^ m → poly_at X p 1 ≡ 0 → p ≡ 0
  unfolding undo
  no_root p h e = sym (undo_all p h) ∙ ap (undo c q m) e ∙ poly_at-zero (poly_at (times_x c m) q) 1

  only_root : (p : ℕ) → p / 2 ^ m ≡ 1 → poly_at X p 1 ≡ 0 → p ≡ c
  only_root p h e =
      ⊕_equal
      (no_root (p ⊕ c)
      (below_of_quotient m (p ⊕ c) (⊕_shift p c m ∙ ap₂ ◌⊕◌ h deg ∙ ⊕-self 1))
      (poly_at-sum X p c 1 ∙ ap₂ ◌⊕◌ e zero-at ∙ ⊕-self 0))

  minimal_is : least_from (λ p. eqb (poly_at X p 1) 0) (2 ^ (m + 1)) 2 ≡ c
  minimal_is =
      least_is (λ p. eqb (poly_at X p 1) 0) (2 ^ (m + 1)) 2 c
      (le_trans (pow_mono pos) (degree_low c m deg)) (omega (arith, degree_high c m deg, pow-add 2 m 1))
      (subst⁻¹ (λ n. T (eqb n 0)) zero-at tt)
      (λ p lo hi t. go p lo hi (eqb→eq (poly_at X p 1) 0 t) (dec_lt p (2 ^ m)))
    where
      go : (p : ℕ) → 2 ≤ p → p < c → poly_at X p 1 ≡ 0 → Dec (p < 2 ^ m) → ⊥
      go p lo hi e (yes l) = omega (arith, no_root p l e)
      go p lo hi e (no l) =
          let d : p / 2 ^ m ≡ 1 = div-eq_of_lt-le (2 ^ m) (omega arith) (omega (arith, degree_high c m deg)) in
          omega (arith, only_root p d e)

unfoldable pub minimals : List ℕ
minimals = 0x13 ∷ 0x1f ∷ 0x7 ∷ 0x25 ∷ 0x3d ∷ 0x37 ∷ 0x43 ∷ 0x57 ∷ 0x67 ∷ 0x89 ∷ 0x8f ∷ 0x9d ∷ 0x11d ∷ 0x177 ∷ 0x1f3 ∷ 0x211 ∷ 0x259 ∷ 0x331 ∷ 0x409 ∷ 0x40f ∷ 0x50d ∷ []

-- for each, a polynomial that takes power i of the root to the root
undoing : List ℕ
undoing = 0x2 ∷ 0xa ∷ 0x0 ∷ 0x2 ∷ 0x6 ∷ 0x1c ∷ 0x2 ∷ 0x5 ∷ 0x22 ∷ 0x2 ∷ 0x23 ∷ 0x70 ∷ 0x2 ∷ 0x63 ∷ 0x21 ∷ 0x2 ∷ 0x128 ∷ 0x6 ∷ 0x2 ∷ 0x286 ∷ 0x28e ∷ []

abbrev pub table_at : List ℕ → ℕ → ℕ → ℕ
table_at l m t = get_or l (3 * (m - 4) + t) 0

-- a design with m and t has words of at least 2mt + 2 bits, and they are at most 2^m - 1
abbrev pub Fits : ℕ → ℕ → Type 0
Fits m t = 2 * (m * t) + 2 < 2 ^ m

-- what is tested of m and of 2t + 1
minimal_test : ℕ → ℕ → Bool
minimal_test m t =
    let c : ℕ = table_at minimals m t in
    let q : ℕ = table_at undoing m t in
    leb (2 ^ m) (2 * (m * suc t) + 2)
    || (eqb (c / 2 ^ m) 1 && (eqb (value_at m (2 * t + 1) c) 0 && all_from (λ k. eqb (undo c q m (value_at m (2 * t + 1) (2 ^ k))) (2 ^ k)) 0 m))

tested : T (all_from (λ m. all_from (minimal_test m) 0 3) 4 7)
unfolding all_from minimal_test minimals undoing undo value_at field_poly poly_at poly_at_digits iterate times_x ◌⊕◌
tested = tt

pub record Minimal (m i c : ℕ) : Type 0 where
  pub is_minimal : minimal_poly m i ≡ c
  pub degree : minimal_poly m i / 2 ^ m ≡ 1
  pub vanishes : value_at m i (minimal_poly m i) ≡ 0

pub minimal : (m t : ℕ) → 4 ≤ m → m ≤ 10 → t < 3 → Fits m (suc t) → Minimal m (2 * t + 1) (table_at minimals m t)
unfolding minimal_test minimal_poly value_at
minimal m t lo hi ht fits =
    let c : ℕ = table_at minimals m t in
    let q : ℕ = table_at undoing m t in
    let i : ℕ = 2 * t + 1 in
    let X : ℕ → ℕ = iterate (times_x (field_poly m) m) i in
    let row = all-from (λ m. all_from (minimal_test m) 0 3) 4 7 tested m lo (omega arith) in
    let t₁ : T (minimal_test m t) = all-from (minimal_test m) 0 3 row t zero-le (omega arith) in
    let t₂ = or_r (leb (2 ^ m) (2 * (m * suc t) + 2)) _ t₁ (λ l. omega (arith, leb→le (2 ^ m) (2 * (m * suc t) + 2) l)) in
    let t₃ = and_r (eqb (c / 2 ^ m) 1) _ t₂ in
    let deg : c / 2 ^ m ≡ 1 = eqb→eq (c / 2 ^ m) 1 (and_l (eqb (c / 2 ^ m) 1) _ t₂) in
    let van : value_at m i c ≡ 0 = eqb→eq (value_at m i c) 0 (and_l (eqb (value_at m i c) 0) _ t₃) in
    let is : minimal_poly m i ≡ c =
    minimal_is X m c q (omega arith) deg van
    (λ k l. eqb→eq (undo c q m (value_at m i (2 ^ k))) (2 ^ k)
    (all-from (λ k. eqb (undo c q m (value_at m i (2 ^ k))) (2 ^ k)) 0 m (and_r (eqb (value_at m i c) 0) _ t₃) k zero-le (omega arith)))
    in
    record { is_minimal = is; degree = ap (λ n. n / 2 ^ m) is ∙ deg; vanishes = ap (value_at m i) is ∙ van }
