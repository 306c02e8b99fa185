-- Rows of original staircase frames to check, as equations about the definitions: m 4, t 1, with M 5 and one block, and with M 7 and two blocks.
--   old5, frame5, copy5     a block over an old parity of ones, the block that the encoder leaves, and a copy of it with two wrong bits
--   old7, frame7            two blocks
--   RowsOriginal            the rows; `rows_original` in proofs/Vectors.antt shows them
-- Assumes nothing.
use Rattle.std.specs.Prelude.{◌≡◌, List, [], ◌∷◌, ℕ}
use Rattle.staircase.specs.Design.{params}
use Rattle.staircase.specs.Rules.Verdict.{accepted, refused}
use Rattle.staircase.specs.Calls.{no_counts}
use Rattle.original.specs.Rules.{original_rules, original_work}
use Rattle.original.specs.Calls.{original_encode_call, original_words_call, original_decode_call}

abbrev pub old5 : List ℕ
old5 = 1 ∷ 1 ∷ 1 ∷ 1 ∷ 1 ∷ 1 ∷ 1 ∷ 1 ∷ 1 ∷ 1 ∷ 1 ∷ 1 ∷ 1 ∷ 1 ∷ 1 ∷ 1 ∷ 1 ∷ 1 ∷ 1 ∷ 1 ∷ 0 ∷ 1 ∷ 1 ∷ 1 ∷ 1 ∷ []

abbrev pub frame5 : List ℕ
frame5 = 1 ∷ 0 ∷ 0 ∷ 1 ∷ 1 ∷ 1 ∷ 0 ∷ 0 ∷ 1 ∷ 1 ∷ 1 ∷ 0 ∷ 0 ∷ 1 ∷ 1 ∷ 1 ∷ 0 ∷ 0 ∷ 1 ∷ 1 ∷ 0 ∷ 0 ∷ 0 ∷ 0 ∷ 0 ∷ []

abbrev pub copy5 : List ℕ
copy5 = 1 ∷ 0 ∷ 1 ∷ 1 ∷ 1 ∷ 1 ∷ 0 ∷ 0 ∷ 1 ∷ 1 ∷ 1 ∷ 0 ∷ 0 ∷ 1 ∷ 1 ∷ 1 ∷ 0 ∷ 1 ∷ 1 ∷ 1 ∷ 0 ∷ 0 ∷ 0 ∷ 0 ∷ 0 ∷ []

abbrev pub old7 : List ℕ
old7 = 1 ∷ 1 ∷ 1 ∷ 1 ∷ 1 ∷ 0 ∷ 1 ∷ 1 ∷ 0 ∷ 1 ∷ 0 ∷ 1 ∷ 1 ∷ 1 ∷ 1 ∷ 0 ∷ 1 ∷ 0 ∷ 1 ∷ 1 ∷ 0 ∷ 0 ∷ 0 ∷ 0 ∷ 1 ∷ 0 ∷ 1 ∷ 0 ∷ 1 ∷ 0 ∷ 0 ∷ 0 ∷ 1 ∷ 1 ∷ 0 ∷ 1 ∷ 0 ∷ 1 ∷ 0 ∷ 0 ∷ 0 ∷ 1 ∷ 0 ∷ 0 ∷ 1 ∷ 0 ∷ 0 ∷ 1 ∷ 1 ∷ 1 ∷ 1 ∷ 1 ∷ 0 ∷ 1 ∷ 0 ∷ 0 ∷ 1 ∷ 0 ∷ 1 ∷ 0 ∷ 0 ∷ 0 ∷ 1 ∷ 1 ∷ 0 ∷ 0 ∷ 0 ∷ 1 ∷ 0 ∷ 0 ∷ 0 ∷ 1 ∷ 0 ∷ 1 ∷ 1 ∷ 0 ∷ 0 ∷ 0 ∷ 1 ∷ 1 ∷ 0 ∷ 0 ∷ 0 ∷ 1 ∷ 1 ∷ 0 ∷ 0 ∷ 0 ∷ 1 ∷ 1 ∷ 0 ∷ 1 ∷ 1 ∷ 0 ∷ 0 ∷ 0 ∷ 0 ∷ 0 ∷ []

abbrev pub frame7 : List ℕ
frame7 = 1 ∷ 1 ∷ 1 ∷ 1 ∷ 0 ∷ 0 ∷ 1 ∷ 1 ∷ 0 ∷ 1 ∷ 1 ∷ 1 ∷ 1 ∷ 1 ∷ 1 ∷ 0 ∷ 1 ∷ 1 ∷ 1 ∷ 1 ∷ 1 ∷ 0 ∷ 0 ∷ 0 ∷ 0 ∷ 0 ∷ 0 ∷ 0 ∷ 1 ∷ 0 ∷ 0 ∷ 1 ∷ 1 ∷ 0 ∷ 0 ∷ 1 ∷ 0 ∷ 1 ∷ 1 ∷ 1 ∷ 1 ∷ 1 ∷ 0 ∷ 0 ∷ 1 ∷ 0 ∷ 0 ∷ 1 ∷ 1 ∷ 1 ∷ 1 ∷ 1 ∷ 1 ∷ 0 ∷ 1 ∷ 0 ∷ 1 ∷ 0 ∷ 1 ∷ 0 ∷ 0 ∷ 1 ∷ 0 ∷ 1 ∷ 0 ∷ 0 ∷ 1 ∷ 1 ∷ 1 ∷ 0 ∷ 0 ∷ 1 ∷ 0 ∷ 0 ∷ 1 ∷ 0 ∷ 1 ∷ 0 ∷ 1 ∷ 1 ∷ 1 ∷ 0 ∷ 1 ∷ 1 ∷ 1 ∷ 0 ∷ 0 ∷ 0 ∷ 0 ∷ 1 ∷ 1 ∷ 1 ∷ 1 ∷ 0 ∷ 1 ∷ 0 ∷ 0 ∷ 0 ∷ []

pub record RowsOriginal : Type 0 where
  -- "the encoder writes only their last r columns": over old parity of ones; over bytes 255, which rule 10 does not judge
  pub block : original_encode_call 4 1 5 0 1 old5 ≡ record { verdict = accepted; buffer = frame5 }
  pub block_over255 : original_encode_call 4 1 5 0 1 (1 ∷ 255 ∷ 255 ∷ 255 ∷ 255 ∷ 1 ∷ 255 ∷ 255 ∷ 255 ∷ 255 ∷ 1 ∷ 255 ∷ 255 ∷ 255 ∷ 255 ∷ 1 ∷ 255 ∷ 255 ∷ 255 ∷ 255 ∷ 0 ∷ 255 ∷ 255 ∷ 255 ∷ 255 ∷ [])
      ≡ record { verdict = accepted; buffer = frame5 }
  pub blocks : original_encode_call 4 1 7 0 2 old7 ≡ record { verdict = accepted; buffer = frame7 }
  -- "every row a codeword"; of the old block no row is
  pub all_in_code : original_words_call 4 1 7 0 2 frame7 ≡ record { verdict = accepted; outside = 0 }
  pub outside : original_words_call 4 1 5 0 1 old5 ≡ record { verdict = accepted; outside = 5 }
  -- two rows with a wrong bit each; the idle round counted; in one round
  pub restored : original_decode_call 4 1 5 0 1 0 copy5 (original_work (params 4 1 5 0) 1)
      ≡ record { verdict = accepted; buffer = frame5; counts = record { rounds = 2; turned = 2; outside = 0; stuck = 0 } }
  pub restored_in_one : original_decode_call 4 1 5 0 1 1 copy5 (original_work (params 4 1 5 0) 1)
      ≡ record { verdict = accepted; buffer = frame5; counts = record { rounds = 1; turned = 2; outside = 0; stuck = 0 } }
  -- "Rule 2 reads 2M for n; rule 3 doesn't apply", "19 thin, after 2, when r is at least M; the place is r"
  pub fits5 : original_rules 4 1 5 0 ≡ accepted
  pub thin4 : original_rules 4 1 4 0 ≡ refused 19 4
  pub fits7 : original_rules 4 1 7 0 ≡ accepted
  pub long8 : original_rules 4 1 8 0 ≡ refused 2 16
  pub long_first : original_rules 4 2 8 0 ≡ refused 2 16
  pub thin30 : original_rules 10 3 30 0 ≡ refused 19 30
  pub fits500 : original_rules 10 3 500 0 ≡ accepted
  pub size501 : original_rules 10 3 501 0 ≡ refused 1 3
  -- col is judged last within rule 1, and has no other effect
  pub col2 : original_rules 4 1 5 2 ≡ refused 1 4
  pub size501col2 : original_rules 10 3 501 2 ≡ refused 1 3
  pub thin4col1 : original_rules 4 1 4 1 ≡ refused 19 4
  -- "The buffer has place 4 in rule 6"; working bytes have place 6
  pub short_buffer : original_encode_call 4 1 5 0 1 (1 ∷ []) ≡ record { verdict = refused 6 4; buffer = 1 ∷ [] }
  pub no_work : original_decode_call 4 1 5 0 1 0 copy5 0 ≡ record { verdict = refused 6 6; buffer = copy5; counts = no_counts }
  -- rule 10 over the information, byte 20; over every byte, byte 1
  pub info_refused : (original_encode_call 4 1 5 0 1 (1 ∷ 255 ∷ 1 ∷ 1 ∷ 1 ∷ 1 ∷ 1 ∷ 1 ∷ 1 ∷ 1 ∷ 1 ∷ 1 ∷ 1 ∷ 1 ∷ 1 ∷ 1 ∷ 1 ∷ 1 ∷ 1 ∷ 1 ∷ 2 ∷ 1 ∷ 1 ∷ 1 ∷ 1 ∷ [])).verdict ≡ refused 10 20
  pub byte_refused : original_words_call 4 1 5 0 1 (1 ∷ 255 ∷ 1 ∷ 1 ∷ 1 ∷ 1 ∷ 1 ∷ 1 ∷ 1 ∷ 1 ∷ 1 ∷ 1 ∷ 1 ∷ 1 ∷ 1 ∷ 1 ∷ 1 ∷ 1 ∷ 1 ∷ 1 ∷ 2 ∷ 1 ∷ 1 ∷ 1 ∷ 1 ∷ [])
      ≡ record { verdict = refused 10 1; outside = 0 }
  -- rules 4 and 5
  pub no_blocks : original_encode_call 4 1 5 0 0 [] ≡ record { verdict = refused 4 0; buffer = [] }
  pub many_rounds : original_decode_call 4 1 5 0 1 65 copy5 0 ≡ record { verdict = refused 5 65; buffer = copy5; counts = no_counts }
