-- The seven field polynomials are primitive: one computed test.
--   primitive     for m from 4 to 10
--   field_laws    the field laws, for each of the seven
--   every_power   every non-zero element is a power of the root
-- Assumes nothing.
use mathlib.Core.Path.{◌≡◌}
use mathlib.Core.Logic.{◌≢◌}
use mathlib.Core.Bool.{Bool, ◌&&◌}
use Prim.Native.Nat.{ℕ, ◌-◌, ◌/◌, ◌^◌, ◌≤◌, ◌<◌}
use native.Mathlib.Omega.{arith}
use lib.Dec.{T, eqb, ltb, eqb→eq, ltb→lt}
use lib.Ieee.Fits.{and_l, and_r}
use Rattle.bch.specs.Polynomial.{◌⊕◌, times_x}
use Rattle.bch.specs.Field.{field_poly, power}
use Rattle.bch.proofs.Tests.{all_from, all-from}
use Rattle.bch.proofs.Field.{comes_back, Primitive, Field, mul, field, power-all}

primitive_test : ℕ → Bool
primitive_test m =
    ltb 0 m && (eqb (field_poly m / 2 ^ m) 1 && comes_back (times_x (field_poly m) m) (2 ^ m - 2) (times_x (field_poly m) m 1))

seven : T (all_from primitive_test 4 7)
unfolding all_from primitive_test comes_back times_x field_poly ◌⊕◌
seven = tt

pub primitive : (m : ℕ) → 4 ≤ m → m ≤ 10 → Primitive (field_poly m) m
unfolding primitive_test
primitive m lo hi =
    let t : T (primitive_test m) = all-from primitive_test 4 7 seven m lo (omega arith) in
    let u = and_r (ltb 0 m) _ t in
    record {
      positive = ltb→lt 0 m (and_l (ltb 0 m) _ t);
      degree = eqb→eq (field_poly m / 2 ^ m) 1 (and_l (eqb (field_poly m / 2 ^ m) 1) _ u);
      returns = and_r (eqb (field_poly m / 2 ^ m) 1) _ u;
    }

pub field_laws : (m : ℕ) → 4 ≤ m → m ≤ 10 → Field m (mul (field_poly m) m)
field_laws m lo hi = field (field_poly m) m (primitive m lo hi)

pub every_power : (m : ℕ) → 4 ≤ m → m ≤ 10 → (a : ℕ) → a < 2 ^ m → a ≢ 0 → (j : ℕ) × (j < 2 ^ m - 1) × (power m j ≡ a)
unfolding power
every_power m lo hi = power-all (field_poly m) m (primitive m lo hi)
