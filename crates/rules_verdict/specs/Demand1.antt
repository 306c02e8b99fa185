-- Demand 1 of a call from C, which answers a number and tells a place.
--   Demand1C     the claim: 0 and 0, or a number of the call's rules and a place of document 01's table; a call that does not answer 0 leaves what it was
--                lent to write on, but for working bytes and its answer
-- Assumes nothing.
use Rattle.std.specs.Prelude.{◌≡◌, true, ◌≢◌, ◌⊎◌, List, ℕ}
use Rattle.staircase.specs.Demand1.{Table, among}

pub record Demand1C (rules : List ℕ) (number place : ℕ) (lent left : List (List ℕ)) : Type 0 where
  pub by_table : ((number ≡ 0) × (place ≡ 0)) ⊎ ((among number rules ≡ true) × Table number place)
  pub untouched : number ≢ 0 → left ≡ lent
