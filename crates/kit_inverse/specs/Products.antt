-- Wrong entries of a product, by what code has at hand: a packed row of A, and W in planes.
--   Side           what one list, the powers of x and the planes are once rules 1 to 7 have passed
--   wrong_in        an entry of one row of a product is not the identity's
--   product_wrong   entry x of row e of A W is not the identity's
-- Assumes nothing.
use Rattle.std.specs.Prelude.{◌≡◌, Bool, not, List, ℕ, ◌*◌, ◌≤◌, ◌<◌, eqb, length, get_or}
use Rattle.staircase.specs.Lists.{sum_bits}
use Rattle.staircase.specs.Design.{most-order}
use Rattle.staircase.specs.System.{row_bytes, identity, preimage}
use Rattle.staircase.specs.Rules.{entries}
use Rattle.staircase.specs.Demand2.{Permutes}
use Rattle.matrix.specs.Packed.{plane_bit}
use Rattle.kit_system.specs.Rows.{unstack_of, row_entry}

-- n is the order M × r, `columns` and `part` the r powers of x that the bits of Y carry in column words and those of X in row words
pub record Side (n size : ℕ) (list columns part t : List ℕ) : Type 0 where
  pub order : n ≡ size * length part
  pub positive : 0 < n
  pub small : n ≤ most-order
  pub r_small : length part ≤ 32
  pub both : length columns ≡ length part
  pub list_length : length list ≡ 2 * n
  pub planes_length : length t ≡ n * row_bytes n
  pub permutes : Permutes n (λ p. get_or (entries n list) p 0)

-- `row` has the entries of row e of one factor, the planes the rows of the other
unfoldable pub wrong_in : (ℕ → ℕ) → List ℕ → ℕ → ℕ → ℕ → Bool
wrong_in row t n e x = not (eqb (sum_bits n (λ k. row k * plane_bit t n k x)) (identity e x))

-- the planes t are those of W's rows
unfoldable pub product_wrong : List ℕ → List ℕ → List ℕ → List ℕ → ℕ → List ℕ → ℕ → ℕ → ℕ → Bool
product_wrong columns part own parity size t n e = wrong_in (row_entry columns part own size (preimage parity n (unstack_of size (length part) e)) e) t n e
