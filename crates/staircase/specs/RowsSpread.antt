-- Rows of the call for spread lists, as equations about the definitions. The design m 6, t 1, M 12 has r 6, so that 2r is M.
--   bytes255 n       n bytes 255, which a list holds before the call
--   RowsSpread       the rows; `rows_spread` in proofs/Vectors.antt shows them
-- Assumes nothing.
use Rattle.std.specs.Prelude.{◌≡◌, List, [], ◌∷◌, ℕ, replicate, take}
use Rattle.staircase.specs.Rules.Verdict.{accepted, refused}
use Rattle.staircase.specs.Spread.{spread_call}

abbrev pub bytes255 : ℕ → List ℕ
bytes255 n = replicate n 255

pub record RowsSpread : Type 0 where
  pub accepts : (spread_call 6 1 12 0 (bytes255 144) (bytes255 144)).verdict ≡ accepted
  -- column 0 of X as it is, column 1 from row 1 on
  pub self : take 28 (spread_call 6 1 12 0 (bytes255 144) (bytes255 144)).self
      ≡ 0 ∷ 0 ∷ 1 ∷ 0 ∷ 2 ∷ 0 ∷ 3 ∷ 0 ∷ 4 ∷ 0 ∷ 5 ∷ 0 ∷ 6 ∷ 0 ∷ 7 ∷ 0 ∷ 8 ∷ 0 ∷ 9 ∷ 0 ∷ 10 ∷ 0 ∷ 11 ∷ 0 ∷ 13 ∷ 0 ∷ 14 ∷ 0 ∷ []
  -- column 0 of Q from row 6 on, column 1 from row 7 on
  pub parity : take 28 (spread_call 6 1 12 0 (bytes255 144) (bytes255 144)).parity
      ≡ 6 ∷ 0 ∷ 7 ∷ 0 ∷ 8 ∷ 0 ∷ 9 ∷ 0 ∷ 10 ∷ 0 ∷ 11 ∷ 0 ∷ 0 ∷ 0 ∷ 1 ∷ 0 ∷ 2 ∷ 0 ∷ 3 ∷ 0 ∷ 4 ∷ 0 ∷ 5 ∷ 0 ∷ 19 ∷ 0 ∷ 20 ∷ 0 ∷ []
  -- "15 narrow .. when 2r exceeds M; the place is M", also where a list is too short
  pub narrow : spread_call 6 1 11 0 (bytes255 132) (bytes255 131) ≡ record { verdict = refused 15 11; self = bytes255 132; parity = bytes255 131 }
  -- the design of document 01's kit K
  pub narrow_k : spread_call 4 1 1 0 (bytes255 8) (bytes255 8) ≡ record { verdict = refused 15 1; self = bytes255 8; parity = bytes255 8 }
  pub short : spread_call 6 1 12 0 (bytes255 144) (bytes255 143) ≡ record { verdict = refused 6 2; self = bytes255 144; parity = bytes255 143 }
