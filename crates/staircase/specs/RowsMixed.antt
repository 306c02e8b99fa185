-- Rows of the call for mixed lists, as equations about the definitions. The design m 5, t 1, M 10 has r 5, so that 2r is M, and 50 entries in a list.
--   RowsMixed   the rows; `rows_mixed` in proofs/Vectors.antt shows them
-- Assumes nothing.
use Rattle.std.specs.Prelude.{◌≡◌, [], ◌∷◌, ◌-◌, ◌^◌, take}
use Rattle.staircase.specs.Design.{params}
use Rattle.staircase.specs.Rules.Verdict.{accepted, refused}
use Rattle.staircase.specs.Mixed.{rows_in, after_list, mixed_call}
use Rattle.staircase.specs.RowsSpread.{bytes255}

pub record RowsMixed : Type 0 where
  pub accepts : (mixed_call 5 1 10 0 0 (bytes255 100) (bytes255 100)).verdict ≡ accepted
  -- the draws of column word 0 of X from seed 0 are 13821, 39984, 15152 and 18692: modulo 5, 4, 3 and 2 these are 1, 0, 2 and 0
  pub rows0 : rows_in (params 5 1 10 0) 0 0 ≡ 4 ∷ 3 ∷ 2 ∷ 0 ∷ 1 ∷ []
  pub rows1 : rows_in (params 5 1 10 0) 0 1 ≡ 4 ∷ 0 ∷ 3 ∷ 2 ∷ 1 ∷ []
  -- Q goes on from the state after the draws for X
  pub rows_q : rows_in (params 5 1 10 0) (after_list (params 5 1 10 0) 0) 0 ≡ 4 ∷ 2 ∷ 0 ∷ 3 ∷ 1 ∷ []
  -- column 0 of X, which goes to column words 0, 1, .., 9, and the first two rows of column 1, which go to 1 and 2
  pub self : take 24 (mixed_call 5 1 10 0 0 (bytes255 100) (bytes255 100)).self
      ≡ 40 ∷ 0 ∷ 41 ∷ 0 ∷ 12 ∷ 0 ∷ 23 ∷ 0 ∷ 34 ∷ 0 ∷ 5 ∷ 0 ∷ 46 ∷ 0 ∷ 17 ∷ 0 ∷ 38 ∷ 0 ∷ 49 ∷ 0 ∷ 1 ∷ 0 ∷ 32 ∷ 0 ∷ []
  -- column 0 of Q, which goes to column words 5, 6, .., 4, and the first two rows of column 1, which go to 6 and 7
  pub parity : take 24 (mixed_call 5 1 10 0 0 (bytes255 100) (bytes255 100)).parity
      ≡ 15 ∷ 0 ∷ 26 ∷ 0 ∷ 47 ∷ 0 ∷ 28 ∷ 0 ∷ 49 ∷ 0 ∷ 40 ∷ 0 ∷ 31 ∷ 0 ∷ 32 ∷ 0 ∷ 3 ∷ 0 ∷ 4 ∷ 0 ∷ 36 ∷ 0 ∷ 7 ∷ 0 ∷ []
  -- 2 × 10 × 4 draws of 16 steps
  pub state : (mixed_call 5 1 10 0 0 (bytes255 100) (bytes255 100)).state ≡ 2854566144
  -- the greatest seed
  pub self_greatest : take 24 (mixed_call 5 1 10 0 (2 ^ 32 - 1) (bytes255 100) (bytes255 100)).self
      ≡ 10 ∷ 0 ∷ 31 ∷ 0 ∷ 32 ∷ 0 ∷ 3 ∷ 0 ∷ 14 ∷ 0 ∷ 5 ∷ 0 ∷ 6 ∷ 0 ∷ 37 ∷ 0 ∷ 38 ∷ 0 ∷ 49 ∷ 0 ∷ 21 ∷ 0 ∷ 42 ∷ 0 ∷ []
  pub state_greatest : (mixed_call 5 1 10 0 (2 ^ 32 - 1) (bytes255 100) (bytes255 100)).state ≡ 3855508735
  -- "15 narrow .. when 2r exceeds M; the place is M", also where a list is too short
  pub narrow : mixed_call 5 1 9 0 7 (bytes255 90) (bytes255 89) ≡ record { verdict = refused 15 9; self = bytes255 90; parity = bytes255 89; state = 0 }
  pub short : mixed_call 5 1 10 0 7 (bytes255 100) (bytes255 99) ≡ record { verdict = refused 6 2; self = bytes255 100; parity = bytes255 99; state = 0 }
