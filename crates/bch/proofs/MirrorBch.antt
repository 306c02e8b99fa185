-- The mirrored codes of the designs: what a user of the BCH layer needs.
--   generator_odd               a generator has the term 1
--   mirror_of_degree            the mirrored generator has degree m t
--   mirrored-parity, mirrored-only   information with its parity is a codeword, and no other end makes one
--   mirrored-bound              codewords of the mirrored code within 2t changes are equal
-- Assumes nothing.
use mathlib.Core.Path.{◌≡◌, refl, sym, ap, ◌∙◌, subst}
use mathlib.Core.Bool.{true}
use mathlib.Core.List.{List, ◌++◌}
use Prim.Native.Nat.{ℕ, zero, suc, ◌+◌, ◌-◌, ◌*◌, ◌/◌, ◌%◌, ◌^◌, ◌≤◌, zero-le}
use native.Mathlib.Nat.{one-mul, mul-mod_left}
use native.Mathlib.Omega.{arith}
use lib.Dec.{T, eqb, eqb→eq}
use lib.ListN.{length}
use Rattle.bch.specs.Polynomial.{Bits, ◌⊕◌, ◌⊗◌}
use Rattle.bch.specs.Code.{minimal_poly, generator, is_codeword, parity, distance}
use Rattle.bch.specs.Mirror.{mirror, backwards}
use Rattle.bch.proofs.Tests.{all_from, all-from}
use Rattle.bch.proofs.Sum.{⊕-mod, ⊕-zero-left}
use Rattle.bch.proofs.Polynomial.{product-horner}
use Rattle.bch.proofs.Minimal.{Fits, minimals, table_at, minimal}
use Rattle.bch.proofs.Systematic.{parity_makes, parity-alone}
use Rattle.bch.proofs.Bch.{Code, degree, degree_positive, bch_bound, codeword_zero, zero_codeword}
use Rattle.bch.proofs.Mirror.{backwards-length, backwards-bits, backwards-twice, backwards-distance, mirror_degree, mirror_codeword}

minimals_odd : T (all_from (λ m. all_from (λ t. eqb (table_at minimals m t % 2) 1) 0 3) 4 7)
unfolding all_from minimals
minimals_odd = tt

product_odd : (p q : ℕ) → p % 2 ≡ 1 → q % 2 ≡ 1 → (p ⊗ q) % 2 ≡ 1
product_odd p q hp hq =
    ap (λ (z : ℕ). z % 2) (product-horner p q ∙ ap (λ (z : ℕ). (p / 2 ⊗ q) * 2 ⊕ z) (ap (λ (z : ℕ). z * q) hp ∙ one-mul q))
    ∙ even_sum ((p / 2 ⊗ q) * 2) q ∙ ap (λ (z : ℕ). z ⊕ q % 2) (mul-mod_left (p / 2 ⊗ q) 2) ∙ ⊕-zero-left (q % 2) ∙ hq
  where
    even_sum : (a b : ℕ) → (a ⊕ b) % 2 ≡ a % 2 ⊕ b % 2
    even_sum = ⊕-mod 1

pub generator_odd : (m t : ℕ) → 4 ≤ m → m ≤ 10 → t ≤ 3 → Fits m t → generator m t % 2 ≡ 1
unfolding generator
generator_odd m zero lo hi ht fits = refl
generator_odd m (suc t) lo hi ht fits =
    product_odd (generator m t) (minimal_poly m (2 * t + 1)) (generator_odd m t lo hi (omega arith) (omega arith))
    (ap (λ (z : ℕ). z % 2) (minimal m t lo hi ht fits).is_minimal
    ∙ eqb→eq (table_at minimals m t % 2) 1
    (all-from (λ t. eqb (table_at minimals m t % 2) 1) 0 3 (all-from (λ m. all_from (λ t. eqb (table_at minimals m t % 2) 1) 0 3) 4 7 minimals_odd m lo (omega arith)) t zero-le (omega arith)))

module _ (m t : ℕ) (C : Code m t) where
  abbrev g : ℕ
  g = generator m t

  abbrev f : ℕ
  f = mirror (m * t) (generator m t)

  odd : generator m t % 2 ≡ 1
  odd = generator_odd m t C.m-low C.m-high C.t-high C.fits

  pub mirror_of_degree : mirror (m * t) (generator m t) / 2 ^ (m * t) ≡ 1
  mirror_of_degree = mirror_degree (m * t) g (degree m t C) odd

  pub mirrored-parity : (u : List ℕ) → Bits u → is_codeword (mirror (m * t) (generator m t)) (m * t) (u ++ parity (mirror (m * t) (generator m t)) (m * t) u) ≡ true
  mirrored-parity u hu = zero_codeword f (m * t) (u ++ parity f (m * t) u) (parity_makes f (m * t) (degree_positive m t C) mirror_of_degree u hu)

  pub mirrored-only : (u p : List ℕ) → Bits u → Bits p → length p ≡ m * t → is_codeword (mirror (m * t) (generator m t)) (m * t) (u ++ p) ≡ true
      → p ≡ parity (mirror (m * t) (generator m t)) (m * t) u
  mirrored-only u p hu hp e c = parity-alone f (m * t) (degree_positive m t C) mirror_of_degree u hu p hp e (codeword_zero f (m * t) (u ++ p) c)

  -- the word read backwards is in the row code
  pub mirrored_codeword : (w : List ℕ) → Bits w → m * t ≤ length w
      → is_codeword (mirror (m * t) (generator m t)) (m * t) w ≡ is_codeword (generator m t) (m * t) (backwards w)
  mirrored_codeword w hw l = mirror_codeword (m * t) g (degree m t C) odd (degree_positive m t C) w hw l

  pub mirrored-bound : (v w : List ℕ) → Bits v → Bits w → length v ≡ length w → m * t ≤ length v → length v ≤ 2 ^ m - 1
      → is_codeword (mirror (m * t) (generator m t)) (m * t) v ≡ true → is_codeword (mirror (m * t) (generator m t)) (m * t) w ≡ true → distance v w ≤ 2 * t → v ≡ w
  mirrored-bound v w hv hw e long l cv cw near =
      sym (backwards-twice v)
      ∙ ap backwards
      (bch_bound m t C (backwards v) (backwards w) (backwards-bits v hv) (backwards-bits w hw) (backwards-length v ∙ e ∙ sym (backwards-length w))
      (subst (λ (z : ℕ). z ≤ 2 ^ m - 1) (sym (backwards-length v)) l)
      (sym (mirrored_codeword v hv long) ∙ cv) (sym (mirrored_codeword w hw (subst (λ (z : ℕ). m * t ≤ z) e long)) ∙ cw)
      (subst (λ (z : ℕ). z ≤ 2 * t) (sym (backwards-distance v w e)) near))
      ∙ backwards-twice w
