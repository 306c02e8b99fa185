-- Generators of binary BCH codes as the textbooks' tables have them, in octal: words of 15, 31 and 63 bits, t 2 and 3.
--   Published, published   the generators, and that they are the definition's
-- Assumes nothing.
use Rattle.std.specs.Prelude.{◌≡◌, refl}
use Rattle.bch.specs.Polynomial.{◌⊕◌, ◌⊗◌, times_x, iterate, poly_at_digits, poly_at}
use Rattle.bch.specs.Field.{field_poly, value_at}
use Rattle.bch.specs.Code.{least_from, minimal_poly, generator}

-- a code by its word length and its information length
pub record Published : Type 0 where
  pub code_15_7 : generator 4 2 ≡ 0o721
  pub code_15_5 : generator 4 3 ≡ 0o2467
  pub code_31_21 : generator 5 2 ≡ 0o3551
  pub code_31_16 : generator 5 3 ≡ 0o107657
  pub code_63_51 : generator 6 2 ≡ 0o12471
  pub code_63_45 : generator 6 3 ≡ 0o1701317

pub published : Published
unfolding ◌⊕◌ ◌⊗◌ times_x iterate poly_at_digits poly_at field_poly value_at least_from minimal_poly generator
published = record { code_15_7 = refl; code_15_5 = refl; code_31_21 = refl; code_31_16 = refl; code_63_51 = refl; code_63_45 = refl }
