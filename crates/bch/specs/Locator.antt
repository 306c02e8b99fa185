-- Tables over a field from which the positions of a word's errors are found.
--   LogTable         the exponent of each element but 0
--   Solution         power e of the root solves z^(k+1) + z = power v
--   SolutionTable    such an e for each v that has one, 0 for the others
--   HalfTable        those of z² + z
--   CubicTable       those of z³ + z
--   FieldTables      the powers of the root and these tables in one list, each in a quarter of it
--   TripleOf         three powers of the root with given sums of the powers, the cubes and the fifth powers
--   PowerIs          power k of an element
--   syndromes        the values of a polynomial at the root and at its cube, in one number
--   power_syndromes   those of a power of x
--   SyndromeTable    those of the powers of x that the positions of a word carry
-- Assumes nothing.
use Rattle.std.specs.Prelude.{◌≡◌, ◌≢◌, List, ℕ, ◌+◌, ◌-◌, ◌*◌, ◌^◌, ◌<◌, length, get_or, take, drop}
use Rattle.bch.specs.Polynomial.{◌⊕◌}
use Rattle.bch.specs.Field.{power, power_table, value_at}

pub record LogTable (m : ℕ) (logs : List ℕ) : Type 0 where
  pub long : length logs ≡ 2 ^ m
  pub below : (x : ℕ) → get_or logs x 0 < 2 ^ m - 1
  pub log : (j : ℕ) → j < 2 ^ m - 1 → get_or logs (power m j) 0 ≡ j

-- z is power e, z^k + 1 is power f, and their product is power e + f
abbrev pub Solution : ℕ → ℕ → ℕ → ℕ → Type 0
Solution m k v e = (f : ℕ) × (power m f ≡ power m (k * e) ⊕ 1) × (power m (e + f) ≡ power m v)

pub record SolutionTable (m k : ℕ) (table : List ℕ) : Type 0 where
  pub long : length table ≡ 2 ^ m - 1
  pub below : (v : ℕ) → get_or table v 0 < 2 ^ m - 1
  pub sound : (v : ℕ) → v < 2 ^ m - 1 → get_or table v 0 ≢ 0 → Solution m k v (get_or table v 0)
  pub complete : (v e : ℕ) → v < 2 ^ m - 1 → 0 < e → e < 2 ^ m - 1 → Solution m k v e → get_or table v 0 ≢ 0

abbrev pub HalfTable : ℕ → List ℕ → Type 0
HalfTable m = SolutionTable m 1

abbrev pub CubicTable : ℕ → List ℕ → Type 0
CubicTable m = SolutionTable m 2

-- the last entry of each quarter but the second can be anything
pub record FieldTables (m : ℕ) (field : List ℕ) : Type 0 where
  pub long : length field ≡ 4 * 2 ^ m
  pub powers : take (2 ^ m - 1) field ≡ power_table m (2 ^ m - 1)
  pub logs : LogTable m (take (2 ^ m) (drop (2 ^ m) field))
  pub halves : HalfTable m (take (2 ^ m - 1) (drop (2 * 2 ^ m) field))
  pub cubics : CubicTable m (take (2 ^ m - 1) (drop (3 * 2 ^ m) field))

-- powers i, j and k of the root have the sum s, their cubes the sum c and their fifth powers the sum f
pub record TripleOf (m s c f i j k : ℕ) : Type 0 where
  pub i_below : i < 2 ^ m - 1
  pub j_below : j < 2 ^ m - 1
  pub k_below : k < 2 ^ m - 1
  pub apart_ij : i ≢ j
  pub apart_ik : i ≢ k
  pub apart_jk : j ≢ k
  pub sum : s ≡ power m i ⊕ (power m j ⊕ power m k)
  pub cubes : c ≡ power m (3 * i) ⊕ (power m (3 * j) ⊕ power m (3 * k))
  pub fifths : f ≡ power m (5 * i) ⊕ (power m (5 * j) ⊕ power m (5 * k))

-- p is power k of the element s
abbrev pub PowerIs : ℕ → ℕ → ℕ → ℕ → Type 0
PowerIs m k s p = (s ≡ 0 → p ≡ 0) × ((e : ℕ) → e < 2 ^ m - 1 → s ≡ power m e → p ≡ power m (k * e))

-- field elements have at most 10 bits
unfoldable pub syndromes : ℕ → ℕ → ℕ
syndromes m p = value_at m 1 p + 65536 * value_at m 3 p

-- x^e has at the root the value power e, and at its cube power 3 e
abbrev pub power_syndromes : ℕ → ℕ → ℕ
power_syndromes m e = power m e + 65536 * power m (3 * e)

-- "Position j of an n-bit word carries x^(n-1-j)"
abbrev pub SyndromeTable : ℕ → List ℕ → Type 0
SyndromeTable m table = (j : ℕ) → j < length table → get_or table j 0 ≡ power_syndromes m (length table - 1 - j)
