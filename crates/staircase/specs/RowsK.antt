-- Document 01, "Rows to check under K": every starred row, and the row of the design limits, as equations about the definitions; then rows of
-- rules 4 to 8 and 10 of its table, of the word checker and of showing. Kit K is the one whose text document 01 prints whole: m 4, t 1, M 1, so that
-- a block is one bit, a word has 10 bits and a list 4 entries.
--   params_k                    the sizes of K's design
--   self_k, parity_k, inverse_k   K's slices
--   plain                      the list 0 1 2 3
--   matrix n a                 the rows of an n × n matrix
--   kit_k                       the kit checker's verdict on the slices of a kit of this design
--   encoded_k, decoded_k         the encoder's call and the decoder's call under K
--   batch_k                     the encoder's call on several frames
--   refused_k                   what a refused call of the decoder leaves
--   counted_k, shown_k           the word checker's call, and showing a part of the frame of blocks 0, 1
--   RowsK                      the rows; `rows_k` in proofs/Vectors.antt shows them
-- Assumes nothing.
use Rattle.std.specs.Prelude.{◌≡◌, List, [], ◌∷◌, ℕ, ◌*◌, replicate}
use Rattle.bch.specs.Code.{generator, parity}
use Rattle.staircase.specs.Lists.{tabulate}
use Rattle.staircase.specs.Design.{Params, params}
use Rattle.staircase.specs.System.{system_entry, inverse_entry, product, identity}
use Rattle.staircase.specs.Rules.{Verdict, Part, design_rules, red_length, kit_work, word_work, decoder_work, interleavers}
use Rattle.staircase.specs.Rules.Verdict.{accepted, refused}
use Rattle.staircase.specs.Rules.Part.{block, group}
use Rattle.staircase.specs.Calls.{kit_verdict, Encoded, encode_call, Counted, words_call, no_counts, Corrected, decode_call, Shown, show_call}
use Rattle.staircase.specs.Batch.{batch_rule, batch_call}

abbrev pub params_k : Params
params_k = params 4 1 1 0

-- "place self parity", two bytes an entry
abbrev pub self_k : List ℕ
self_k = 1 ∷ 0 ∷ 0 ∷ 0 ∷ 2 ∷ 0 ∷ 3 ∷ 0 ∷ []

abbrev pub parity_k : List ℕ
parity_k = 3 ∷ 0 ∷ 0 ∷ 0 ∷ 1 ∷ 0 ∷ 2 ∷ 0 ∷ []

-- "row inverse": 1010, 0101, 1101, 0100, column 0 in the lowest bit
abbrev pub inverse_k : List ℕ
inverse_k = 5 ∷ 10 ∷ 11 ∷ 2 ∷ []

abbrev pub plain : List ℕ
plain = 0 ∷ 0 ∷ 1 ∷ 0 ∷ 2 ∷ 0 ∷ 3 ∷ 0 ∷ []

abbrev pub matrix : ℕ → (ℕ → ℕ → ℕ) → List (List ℕ)
matrix n a = tabulate n (λ i. tabulate n (a i))

abbrev pub kit_k : List ℕ → List ℕ → List ℕ → Verdict
kit_k self parity w = kit_verdict 4 1 1 0 self parity w (kit_work params_k)

-- L blocks; the redundancy buffer holds bytes 255 before the call
abbrev pub encoded_k : ℕ → List ℕ → Encoded
encoded_k L info = encode_call 4 1 1 0 L self_k parity_k inverse_k info (replicate (red_length params_k L) 255) (kit_work params_k)

-- n frames of L blocks; the redundancy buffer holds bytes 255 before the call
abbrev pub batch_k : ℕ → ℕ → List ℕ → Encoded
batch_k L n info = batch_call 4 1 1 0 L n self_k parity_k inverse_k info (replicate (n * red_length params_k L) 255) (kit_work params_k)

-- L blocks and a number of rounds
abbrev pub decoded_k : ℕ → ℕ → List ℕ → List ℕ → Corrected
decoded_k L rounds info red = decode_call 4 1 1 0 L rounds self_k parity_k info red (decoder_work params_k L)

-- a refused call of the decoder: both buffers as they were, and nothing counted
abbrev pub refused_k : ℕ → ℕ → List ℕ → List ℕ → Corrected
refused_k n p info red =
    record { verdict = refused n p; frame = record { info = info; red = red }; counts = no_counts }

abbrev pub counted_k : ℕ → List ℕ → List ℕ → Counted
counted_k L info red = words_call 4 1 1 0 L self_k parity_k info red (word_work params_k)

-- of the frame of blocks 0, 1
abbrev pub shown_k : Part → Shown
shown_k part = show_call 4 1 1 0 2 part (0 ∷ 1 ∷ []) (0 ∷ 0 ∷ 0 ∷ 1 ∷ 0 ∷ 1 ∷ 1 ∷ 0 ∷ [])

pub record RowsK : Type 0 where
  -- "remainders: x^9 is 1010, x^8 is 0101", of information × x^4
  pub x9 : parity (generator 4 1) 4 (1 ∷ 0 ∷ 0 ∷ 0 ∷ 0 ∷ 0 ∷ []) ≡ 1 ∷ 0 ∷ 1 ∷ 0 ∷ []
  pub x8 : parity (generator 4 1) 4 (0 ∷ 1 ∷ 0 ∷ 0 ∷ 0 ∷ 0 ∷ []) ≡ 0 ∷ 1 ∷ 0 ∷ 1 ∷ []
  -- "A has rows 0110, 0001, 1110, 0101"
  pub system : matrix 4 (system_entry params_k (interleavers params_k self_k parity_k))
      ≡ (0 ∷ 1 ∷ 1 ∷ 0 ∷ []) ∷ (0 ∷ 0 ∷ 0 ∷ 1 ∷ []) ∷ (1 ∷ 1 ∷ 1 ∷ 0 ∷ []) ∷ (0 ∷ 1 ∷ 0 ∷ 1 ∷ []) ∷ []
  -- "both products are the identity"
  pub right_inverse : matrix 4 (product 4 (system_entry params_k (interleavers params_k self_k parity_k)) (inverse_entry inverse_k 4)) ≡ matrix 4 identity
  pub left_inverse : matrix 4 (product 4 (inverse_entry inverse_k 4) (system_entry params_k (interleavers params_k self_k parity_k))) ≡ matrix 4 identity
  pub passes : kit_k self_k parity_k inverse_k ≡ accepted
  -- "blocks 1: 0000 1010"
  pub blocks1 : encoded_k 1 (1 ∷ []) ≡ record { verdict = accepted; red = 0 ∷ 0 ∷ 0 ∷ 0 ∷ 1 ∷ 0 ∷ 1 ∷ 0 ∷ [] }
  -- "blocks 1, 0: the same"
  pub blocks10 : encoded_k 2 (1 ∷ 0 ∷ []) ≡ record { verdict = accepted; red = 0 ∷ 0 ∷ 0 ∷ 0 ∷ 1 ∷ 0 ∷ 1 ∷ 0 ∷ [] }
  -- "blocks 0, 1: 0001 0110"
  pub blocks01 : encoded_k 2 (0 ∷ 1 ∷ []) ≡ record { verdict = accepted; red = 0 ∷ 0 ∷ 0 ∷ 1 ∷ 0 ∷ 1 ∷ 1 ∷ 0 ∷ [] }
  -- "blocks 1, 1: 0001 1100"
  pub blocks11 : encoded_k 2 (1 ∷ 1 ∷ []) ≡ record { verdict = accepted; red = 0 ∷ 0 ∷ 0 ∷ 1 ∷ 1 ∷ 1 ∷ 0 ∷ 0 ∷ [] }
  -- "the four blocks above": 0, 1, 0, 0 give the groups 0001 0110 and 0001 0011
  pub blocks0100 : encoded_k 4 (0 ∷ 1 ∷ 0 ∷ 0 ∷ [])
      ≡ record { verdict = accepted; red = 0 ∷ 0 ∷ 0 ∷ 1 ∷ 0 ∷ 1 ∷ 1 ∷ 0 ∷ 0 ∷ 0 ∷ 0 ∷ 1 ∷ 0 ∷ 0 ∷ 1 ∷ 1 ∷ [] }
  -- document 02, "up to 256 frames of one length": the frames 1, 0 and 0, 1 in one call
  pub frames2 : batch_k 2 2 (1 ∷ 0 ∷ 0 ∷ 1 ∷ []) ≡ record { verdict = accepted; red = 0 ∷ 0 ∷ 0 ∷ 0 ∷ 1 ∷ 0 ∷ 1 ∷ 0 ∷ 0 ∷ 0 ∷ 0 ∷ 1 ∷ 0 ∷ 1 ∷ 1 ∷ 0 ∷ [] }
  -- "rule 10's place is counted over the joined information"
  pub frames_bit : batch_k 2 2 (1 ∷ 0 ∷ 0 ∷ 2 ∷ []) ≡ record { verdict = refused 10 3; red = replicate 16 255 }
  -- "17 batch, after 4, when the number of frames is 0 or above 256", and before 6: information of a wrong length beside it
  pub frames_count : batch_k 0 0 (1 ∷ []) ≡ record { verdict = refused 4 0; red = [] }
  pub no_frames : batch_k 2 0 (1 ∷ []) ≡ record { verdict = refused 17 0; red = [] }
  pub most_frames : batch_rule 256 ≡ accepted
  pub many_frames : batch_rule 257 ≡ refused 17 257
  -- "both lists 0 1 2 3: A is all zero, refused 9 at 0"
  pub plain_system : matrix 4 (system_entry params_k (interleavers params_k plain plain)) ≡ matrix 4 (λ i j. 0)
  pub plain_refused : kit_k plain plain inverse_k ≡ refused 9 0
  -- "last row of W 0101: refused 9 at 7"
  pub inverse_refused : kit_k self_k parity_k (5 ∷ 10 ∷ 11 ∷ 10 ∷ []) ≡ refused 9 7
  -- document 02, "Rule 10 now comes before rule 9": blocks 0, 2 under the same W
  pub bits_first : encode_call 4 1 1 0 2 self_k parity_k (5 ∷ 10 ∷ 11 ∷ 10 ∷ []) (0 ∷ 2 ∷ []) (replicate (red_length params_k 2) 255) (kit_work params_k)
      ≡ record { verdict = refused 10 1; red = replicate (red_length params_k 2) 255 }
  -- "blocks 0, 1 with group 0001 0111: mended, result 2, 1, 0"
  pub corrected : decoded_k 2 0 (0 ∷ 1 ∷ []) (0 ∷ 0 ∷ 0 ∷ 1 ∷ 0 ∷ 1 ∷ 1 ∷ 1 ∷ [])
      ≡ record {
        verdict = accepted;
        frame = record { info = 0 ∷ 1 ∷ []; red = 0 ∷ 0 ∷ 0 ∷ 1 ∷ 0 ∷ 1 ∷ 1 ∷ 0 ∷ [] };
        counts = record { rounds = 2; turned = 1; outside = 0; stuck = 0 };
      }
  -- "with one round allowed 1, 1, 0"
  pub corrected_in_one : decoded_k 2 1 (0 ∷ 1 ∷ []) (0 ∷ 0 ∷ 0 ∷ 1 ∷ 0 ∷ 1 ∷ 1 ∷ 1 ∷ [])
      ≡ record {
        verdict = accepted;
        frame = record { info = 0 ∷ 1 ∷ []; red = 0 ∷ 0 ∷ 0 ∷ 1 ∷ 0 ∷ 1 ∷ 1 ∷ 0 ∷ [] };
        counts = record { rounds = 1; turned = 1; outside = 0; stuck = 0 };
      }
  -- "blocks 0, 0 with group 0000 0101: blocks 0, 1, group kept, result 2, 1, 1 (the row word's codeword needs B0)"
  pub needs_b0 : decoded_k 2 0 (0 ∷ 0 ∷ []) (0 ∷ 0 ∷ 0 ∷ 0 ∷ 0 ∷ 1 ∷ 0 ∷ 1 ∷ [])
      ≡ record {
        verdict = accepted;
        frame = record { info = 0 ∷ 1 ∷ []; red = 0 ∷ 0 ∷ 0 ∷ 0 ∷ 0 ∷ 1 ∷ 0 ∷ 1 ∷ [] };
        counts = record { rounds = 2; turned = 1; outside = 1; stuck = 1 };
      }
  -- "m 4, t 1, M 3 fits; M 4 is refused 2 at 16. m 10, t 2, M 204 fits; M 205 is refused 3 at 4,100."
  pub fits3 : design_rules 4 1 3 0 ≡ accepted
  pub long4 : design_rules 4 1 4 0 ≡ refused 2 16
  pub mirrored3 : design_rules 4 1 3 1 ≡ accepted
  pub column3 : design_rules 4 1 3 2 ≡ refused 1 4
  pub sizes_first : design_rules 4 1 0 2 ≡ refused 1 3
  pub column_first : design_rules 4 1 4 2 ≡ refused 1 4
  pub fits204 : design_rules 10 2 204 0 ≡ accepted
  pub large205 : design_rules 10 2 205 0 ≡ refused 3 4100
  -- "4 count: the number; L .. out of range"
  pub no_blocks : encoded_k 0 [] ≡ record { verdict = refused 4 0; red = [] }
  pub many_blocks : encoded_k 4097 [] ≡ record { verdict = refused 4 4097; red = replicate (red_length params_k 4097) 255 }
  -- "5 rounds: the number; above 64"; "lent buffers stay untouched", here blocks 0, 1 with group 0001 0111
  pub many_rounds : decoded_k 2 65 (0 ∷ 1 ∷ []) (0 ∷ 0 ∷ 0 ∷ 1 ∷ 0 ∷ 1 ∷ 1 ∷ 1 ∷ []) ≡ refused_k 5 65 (0 ∷ 1 ∷ []) (0 ∷ 0 ∷ 0 ∷ 1 ∷ 0 ∷ 1 ∷ 1 ∷ 1 ∷ [])
  -- "6 length: 1 self, 2 parity, 3 inverse, 4 information, 5 redundancy, 6 working; first slice of a wrong length": each one byte short, and no
  -- working bytes
  pub short_self : kit_k (1 ∷ 0 ∷ 0 ∷ 0 ∷ 2 ∷ 0 ∷ 3 ∷ []) parity_k inverse_k ≡ refused 6 1
  pub short_parity : kit_k self_k (3 ∷ 0 ∷ 0 ∷ 0 ∷ 1 ∷ 0 ∷ 2 ∷ []) inverse_k ≡ refused 6 2
  pub short_inverse : kit_k self_k parity_k (5 ∷ 10 ∷ 11 ∷ []) ≡ refused 6 3
  pub short_info : encoded_k 2 (0 ∷ []) ≡ record { verdict = refused 6 4; red = replicate 8 255 }
  pub short_red : decoded_k 2 0 (0 ∷ 1 ∷ []) (0 ∷ 0 ∷ 0 ∷ 1 ∷ 0 ∷ 1 ∷ 1 ∷ []) ≡ refused_k 6 5 (0 ∷ 1 ∷ []) (0 ∷ 0 ∷ 0 ∷ 1 ∷ 0 ∷ 1 ∷ 1 ∷ [])
  pub no_work : kit_verdict 4 1 1 0 self_k parity_k inverse_k 0 ≡ refused 6 6
  -- "7 list: the entry's position in its list; for parity plus M × r; first entry too large or seen earlier in its list": the self list 1 0 2 2,
  -- the parity list 3 0 4 2
  pub self_refused : kit_k (1 ∷ 0 ∷ 0 ∷ 0 ∷ 2 ∷ 0 ∷ 2 ∷ 0 ∷ []) parity_k inverse_k ≡ refused 7 3
  pub parity_refused : kit_k self_k (3 ∷ 0 ∷ 0 ∷ 0 ∷ 4 ∷ 0 ∷ 2 ∷ 0 ∷ []) inverse_k ≡ refused 7 6
  -- "8 spare: row; first row of W with a spare bit of 1": bit 4 of row 2
  pub spare_refused : kit_k self_k parity_k (5 ∷ 10 ∷ 27 ∷ 2 ∷ []) ≡ refused 8 2
  -- "10 bit: byte; for redundancy plus the information length; first byte above 1"
  pub info_refused : encoded_k 2 (0 ∷ 7 ∷ []) ≡ record { verdict = refused 10 1; red = replicate 8 255 }
  pub red_refused : decoded_k 2 0 (0 ∷ 1 ∷ []) (0 ∷ 0 ∷ 0 ∷ 1 ∷ 0 ∷ 2 ∷ 1 ∷ 0 ∷ []) ≡ refused_k 10 7 (0 ∷ 1 ∷ []) (0 ∷ 0 ∷ 0 ∷ 1 ∷ 0 ∷ 2 ∷ 1 ∷ 0 ∷ [])
  -- "The word checker counts the words outside the code": none for blocks 0, 1 with the encoder's group, both for blocks 0, 0 with group 0000 0101,
  -- and nothing where it refuses
  pub all_in_code : counted_k 2 (0 ∷ 1 ∷ []) (0 ∷ 0 ∷ 0 ∷ 1 ∷ 0 ∷ 1 ∷ 1 ∷ 0 ∷ []) ≡ record { verdict = accepted; outside = 0 }
  pub both_outside : counted_k 2 (0 ∷ 0 ∷ []) (0 ∷ 0 ∷ 0 ∷ 0 ∷ 0 ∷ 1 ∷ 0 ∷ 1 ∷ []) ≡ record { verdict = accepted; outside = 2 }
  pub uncounted : counted_k 2 (0 ∷ 0 ∷ []) (0 ∷ 0 ∷ 0 ∷ 0 ∷ 0 ∷ 1 ∷ 0 ∷ 2 ∷ []) ≡ record { verdict = refused 10 9; outside = 0 }
  -- "A block or a group is shown as the stretch of whichever buffer holds it"
  pub block_shown : shown_k (block 2) ≡ record { verdict = accepted; bits = 1 ∷ [] }
  pub group_shown : shown_k (group 1) ≡ record { verdict = accepted; bits = 0 ∷ 0 ∷ 0 ∷ 1 ∷ 0 ∷ 1 ∷ 1 ∷ 0 ∷ [] }
  -- "4 count: the number; .. the block or group to be shown, out of range"; "it is empty exactly when refused"
  pub block_refused : shown_k (block 3) ≡ record { verdict = refused 4 3; bits = [] }
  pub group_refused : shown_k (group 0) ≡ record { verdict = refused 4 0; bits = [] }
