-- The codes of the designs, with m from 4 to 10 and t from 1 to 3 as variables. What a user of the BCH layer needs:
--   Code m t                    m and t of a design that rules 1 and 2 of the table let through
--   degree                      its generator has degree m t
--   codeword_multiple, multiple_codeword   "remainder 0" is "the generator divides it", both ways
--   parity_codeword, parity-only   information with its parity is a codeword, and no other end makes one
--   parity-sum                  parity is linear
--   bch_bound                   codewords within 2t changes are equal
--   one_codeword                at most one codeword lies within t changes of a word
-- Assumes nothing.
use mathlib.Core.Path.{◌≡◌}
use mathlib.Core.Bool.{true}
use mathlib.Core.List.{List, ◌++◌}
use Prim.Native.Nat.{ℕ, ◌-◌, ◌*◌, ◌/◌, ◌^◌, ◌≤◌, ◌<◌}
use native.Mathlib.Nat.{mul-pos, le_trans, zero-lt-suc}
use lib.ListN.{length}
use borrow.Author.Tests.{eqb-true, eq-eqb}
use Rattle.bch.specs.Polynomial.{Bits, ◌⊗◌, word_poly, remainder}
use Rattle.bch.specs.Field.{field_poly, value_at}
use Rattle.bch.specs.Code.{generator, is_codeword, parity, distance}
use Rattle.bch.proofs.Primitive.{primitive}
use Rattle.bch.proofs.Minimal.{Fits}
use Rattle.bch.proofs.Generator.{generator_degree, generator_roots}
use Rattle.bch.proofs.Word.{divides, multiple}
use Rattle.bch.proofs.Bound.{near_equal, near_one}
use Rattle.bch.proofs.Systematic.{parity_makes, parity-alone}

-- a word whose remainder is 0 passes the test, and no other
pub codeword_zero : (g r : ℕ) (w : List ℕ) → is_codeword g r w ≡ true → remainder g r w ≡ 0
unfolding is_codeword
codeword_zero g r w = eqb-true (remainder g r w) 0

pub zero_codeword : (g r : ℕ) (w : List ℕ) → remainder g r w ≡ 0 → is_codeword g r w ≡ true
unfolding is_codeword
zero_codeword g r w = eq-eqb (remainder g r w) 0

-- The table's limits on m and t. `Fits` is what rule 2 leaves of a word of at least 2 m t + 2 bits.
pub record Code (m t : ℕ) : Type 0 where
  pub m-low : 4 ≤ m
  pub m-high : m ≤ 10
  pub t-low : 1 ≤ t
  pub t-high : t ≤ 3
  pub fits : Fits m t

module _ (m t : ℕ) (C : Code m t) where
  abbrev g : ℕ
  g = generator m t

  pub degree_positive : 0 < m * t
  degree_positive = mul-pos (le_trans (zero-lt-suc 3) C.m-low) C.t-low

  pub degree : generator m t / 2 ^ (m * t) ≡ 1
  degree = generator_degree m t C.m-low C.m-high C.t-high C.fits

  pub codeword_multiple : (w : List ℕ) → is_codeword (generator m t) (m * t) w ≡ true → (q : ℕ) × (word_poly w ≡ q ⊗ generator m t)
  codeword_multiple w c = multiple g (m * t) w (codeword_zero g (m * t) w c)

  pub multiple_codeword : (w : List ℕ) → Bits w → (q : ℕ) → word_poly w ≡ q ⊗ generator m t → is_codeword (generator m t) (m * t) w ≡ true
  multiple_codeword w hw q e = zero_codeword g (m * t) w (divides g (m * t) degree_positive degree w hw q e)

  pub parity_codeword : (u : List ℕ) → Bits u → is_codeword (generator m t) (m * t) (u ++ parity (generator m t) (m * t) u) ≡ true
  parity_codeword u hu = zero_codeword g (m * t) (u ++ parity g (m * t) u) (parity_makes g (m * t) degree_positive degree u hu)

  pub parity-only : (u p : List ℕ) → Bits u → Bits p → length p ≡ m * t → is_codeword (generator m t) (m * t) (u ++ p) ≡ true → p ≡ parity (generator m t) (m * t) u
  parity-only u p hu hp e c = parity-alone g (m * t) degree_positive degree u hu p hp e (codeword_zero g (m * t) (u ++ p) c)

  pub bch_bound : (v w : List ℕ) → Bits v → Bits w → length v ≡ length w → length v ≤ 2 ^ m - 1
      → is_codeword (generator m t) (m * t) v ≡ true → is_codeword (generator m t) (m * t) w ≡ true → distance v w ≤ 2 * t → v ≡ w
  unfolding value_at
  bch_bound v w hv hw e l cv cw =
      near_equal (field_poly m) m (primitive m C.m-low C.m-high) g (m * t) t
      (generator_roots m t C.m-low C.m-high C.t-high C.fits) v w hv hw e l
      (codeword_zero g (m * t) v cv) (codeword_zero g (m * t) w cw)

  pub one_codeword : (u v w : List ℕ) → Bits v → Bits w → length u ≡ length v → length u ≡ length w → length u ≤ 2 ^ m - 1
      → is_codeword (generator m t) (m * t) v ≡ true → is_codeword (generator m t) (m * t) w ≡ true → distance u v ≤ t → distance u w ≤ t → v ≡ w
  unfolding value_at
  one_codeword u v w hv hw ev ew l cv cw =
      near_one (field_poly m) m (primitive m C.m-low C.m-high) g (m * t) t
      (generator_roots m t C.m-low C.m-high C.t-high C.fits) u v w hv hw ev ew l
      (codeword_zero g (m * t) v cv) (codeword_zero g (m * t) w cw)
