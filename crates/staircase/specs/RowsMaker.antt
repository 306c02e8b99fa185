-- Rows of the maker of a kit's inverse under the design of document 01's kit K (m 4, t 1, M 1), as equations about the definitions. The buffer of the
-- inverse holds bytes 255 before the call.
--   old_k            that buffer
--   made_k           the maker's call
--   kept_k           what a refused one answers and leaves
--   RowsMaker       the rows; `rows_maker` in proofs/RowsMaker.antt shows them
-- Assumes nothing.
use Rattle.std.specs.Prelude.{◌≡◌, List, [], ◌∷◌, ℕ}
use Rattle.staircase.specs.Rules.Verdict.{accepted, refused}
use Rattle.staircase.specs.Maker.{Made, make_work, make_call}
use Rattle.staircase.specs.RowsK.{params_k, self_k, parity_k, inverse_k, plain}

abbrev pub old_k : List ℕ
old_k = 255 ∷ 255 ∷ 255 ∷ 255 ∷ []

abbrev pub made_k : List ℕ → List ℕ → Made
made_k self parity = make_call 4 1 1 0 self parity old_k (make_work params_k)

-- "lent buffers stay untouched"
abbrev pub kept_k : ℕ → ℕ → Made
kept_k n p = record { verdict = refused n p; inverse = old_k }

pub record RowsMaker : Type 0 where
  -- K's lists 1 0 2 3 and 3 0 1 2 have K's inverse
  pub made : made_k self_k parity_k ≡ record { verdict = accepted; inverse = inverse_k }
  -- "column 0 if it is zero": both lists 0 1 2 3, whose A is all zero
  pub zero_column : made_k plain plain ≡ kept_k 14 0
  -- "the first column of A that is a sum of earlier columns": the self list 0 1 2 3 with the parity lists 1 2 0 3 and 1 2 3 0
  pub third_column : made_k plain (1 ∷ 0 ∷ 2 ∷ 0 ∷ 0 ∷ 0 ∷ 3 ∷ 0 ∷ []) ≡ kept_k 14 2
  pub last_column : made_k plain (1 ∷ 0 ∷ 2 ∷ 0 ∷ 3 ∷ 0 ∷ 0 ∷ 0 ∷ []) ≡ kept_k 14 3
  -- "14 singular, after 7": the self list 0 1 2 2, and the parity list 0 1 2 4
  pub repeated : made_k (0 ∷ 0 ∷ 1 ∷ 0 ∷ 2 ∷ 0 ∷ 2 ∷ 0 ∷ []) plain ≡ kept_k 7 3
  pub too_large : made_k plain (0 ∷ 0 ∷ 1 ∷ 0 ∷ 2 ∷ 0 ∷ 4 ∷ 0 ∷ []) ≡ kept_k 7 7
  -- rule 6 measures the lists, the inverse and the working bytes
  pub short_inverse : make_call 4 1 1 0 self_k parity_k (255 ∷ 255 ∷ 255 ∷ []) (make_work params_k)
      ≡ record { verdict = refused 6 3; inverse = 255 ∷ 255 ∷ 255 ∷ [] }
  pub no_work : make_call 4 1 1 0 self_k parity_k old_k 0 ≡ kept_k 6 6
  -- document 02: K's lists have no inverse where the column code is mirrored; "rule 1 gains place 4 for any other"
  pub mirrored : make_call 4 1 1 1 self_k parity_k old_k (make_work params_k) ≡ kept_k 14 3
  pub other_code : make_call 4 1 1 2 self_k parity_k old_k (make_work params_k) ≡ kept_k 1 4
