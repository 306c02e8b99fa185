-- Demand 2's rule for a kit of an allowed design, apart from the table: "It passes exactly when both lists are permutations, spare bits of W
-- are 0, A W is the identity and W A is the identity." The theorem is `demand2` in proofs/Demand2.antt.
--   Permutes n f      f permutes the places below n
--   KitPasses s l w   the rule
--   FitsOrder n ..    the slices of a kit have their lengths
-- Assumes nothing.
use Rattle.std.specs.Prelude.{◌≡◌, List, ℕ, ◌*◌, ◌≤◌, ◌<◌, get_or, length}
use Rattle.staircase.specs.Design.{Params, Interleavers, order}
use Rattle.staircase.specs.System.{system_entry, inverse_entry, row_bytes, product, identity}

-- each place goes to a place below n, and no two to the same
pub record Permutes (n : ℕ) (f : ℕ → ℕ) : Type 0 where
  pub below : (k : ℕ) → k < n → f k < n
  pub once : (j k : ℕ) → j < n → k < n → f j ≡ f k → j ≡ k

pub record KitPasses (s : Params) (l : Interleavers) (w : List ℕ) : Type 0 where
  pub self : Permutes (order s) (λ p. get_or l.self p 0)
  pub parity : Permutes (order s) (λ p. get_or l.parity p 0)
  pub spare : (i j : ℕ) → i < order s → order s ≤ j → j < 8 * row_bytes (order s) → inverse_entry w (order s) i j ≡ 0
  pub right_inverse : (i j : ℕ) → i < order s → j < order s → product (order s) (system_entry s l) (inverse_entry w (order s)) i j ≡ identity i j
  pub left_inverse : (i j : ℕ) → i < order s → j < order s → product (order s) (inverse_entry w (order s)) (system_entry s l) i j ≡ identity i j

pub record FitsOrder (n : ℕ) (self parity w : List ℕ) : Type 0 where
  pub self_length : length self ≡ 2 * n
  pub parity_length : length parity ≡ 2 * n
  pub inverse_length : length w ≡ n * row_bytes n
