-- The generators, as products of the minimal polynomials that are proved to be minimal.
--   product_at         the product of the first t minimal polynomials of field m, as numbers
--   generator-is      it is the generator, for all m and t of a design
--   entries_from, entries_from_at   a list by a rule on its positions, and its entries
--   generators        the products for t = 1, 2, 3, of m = 4, then 5, .., 10: the list that the constant table is compared with
--   generator-at      the entry for m and t is the generator
--   generator-below   it is below 2^31
-- Assumes nothing.
use mathlib.Core.Path.{◌≡◌, refl, sym, ap, ap₂, ◌∙◌}
use mathlib.Core.List.{List, [], ◌∷◌}
use Prim.Native.Nat.{ℕ, zero, suc, ◌+◌, ◌-◌, ◌*◌, ◌/◌, ◌%◌, ◌^◌, ◌≤◌, ◌<◌}
use native.Mathlib.Nat.{mul-le-mul, add-zero, add-suc, suc-add, le_of_suc-le-suc, not-suc-le-zero}
use native.Mathlib.Omega.{arith}
use lib.Pow.{pow_mono}
use lib.ListN.{get_or}
use Rattle.bch.specs.Polynomial.{◌⊗◌}
use Rattle.bch.specs.Code.{generator}
use Rattle.bch.proofs.Modulus.{degree_high}
use Rattle.bch.proofs.Minimal.{Fits, table_at, minimals, minimal}
use Rattle.bch.proofs.Generator.{generator_degree}

unfoldable pub product_at : ℕ → ℕ → ℕ
product_at m zero = 1
product_at m (suc t) = product_at m t ⊗ table_at minimals m t

pub generator-is : (m t : ℕ) → 4 ≤ m → m ≤ 10 → t ≤ 3 → Fits m t → generator m t ≡ product_at m t
unfolding generator product_at
generator-is m zero lo hi ht fits = refl
generator-is m (suc t) lo hi ht fits =
    ap₂ ◌⊗◌ (generator-is m t lo hi (omega arith) (omega arith)) (minimal m t lo hi ht fits).is_minimal

-- f k, f (k + 1), .., n of them
unfoldable pub entries_from : (ℕ → ℕ) → ℕ → ℕ → List ℕ
entries_from f zero k = []
entries_from f (suc n) k = f k ∷ entries_from f n (suc k)

entries_from_at : (f : ℕ → ℕ) (n k i : ℕ) → i < n → get_or (entries_from f n k) i 0 ≡ f (k + i)
unfolding entries_from
entries_from_at f zero k i h = absurd (not-suc-le-zero h)
entries_from_at f (suc n) k zero h = ap f (sym (add-zero k))
entries_from_at f (suc n) k (suc i) h = entries_from_at f n (suc k) i (le_of_suc-le-suc h) ∙ ap f (suc-add k i ∙ sym (add-suc k i))

unfoldable pub generators : List ℕ
generators = entries_from (λ k. product_at (4 + k / 3) (1 + k % 3)) 21 0

pub generator-at : (m t : ℕ) → 4 ≤ m → m ≤ 10 → 1 ≤ t → t ≤ 3 → Fits m t → get_or generators (3 * (m - 4) + (t - 1)) 0 ≡ generator m t
unfolding generators
generator-at m t lo hi low ht fits =
    let k : ℕ = 3 * (m - 4) + (t - 1) in
    let row : 4 + (0 + k) / 3 ≡ m = omega arith in
    let place : 1 + (0 + k) % 3 ≡ t = omega arith in
    entries_from_at (λ k. product_at (4 + k / 3) (1 + k % 3)) 21 0 k (omega arith) ∙ ap₂ product_at row place ∙ sym (generator-is m t lo hi ht fits)

pub generator-below : (m t : ℕ) → 4 ≤ m → m ≤ 10 → t ≤ 3 → Fits m t → generator m t < 2 ^ 31
generator-below m t lo hi ht fits =
    let p : 2 ^ (m * t) ≤ 2 ^ 30 = pow_mono (mul-le-mul hi ht) in
    omega (arith, degree_high (generator m t) (m * t) (generator_degree m t lo hi ht fits))
