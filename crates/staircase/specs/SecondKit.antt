-- Vectors for what kit K leaves open, since its M and t are 1 and its self list is its own inverse: the sense of the self list, the order in
-- which Y is stacked, a block's rows and columns, the order of a round's words, the rounds that 0 stands for, corrections of two bits, a bit flipped
-- twice. The values are those of tests/check/second_kit.py, a literal reading of document 01 with matrices and transposes written out. Names end in S for the
-- second kit (m 4, t 1, M 2) and in T for two words with m 5, t 2, M 2. No list here is its own inverse.
--   params_s, params_t                   the sizes of the two designs
--   self_s, parity_s, inverse_s           the second kit's slices
--   system_s                            its A
--   wrong_s, wrong_place_s                its W with one wrong bit, and rule 9's place
--   info_s, red_s                        a frame of 3 blocks; the block after the last is not sent
--   received_s, counts_s                 this frame with three wrong bits, and the decoder's counts
--   unsettled_s                         a frame of 1 block for which no round is idle
--   unsettled_left_s, unsettled_counts_s   what the decoder leaves of it, and the counts
--   kit_s, decoded_s                     the kit checker's verdict on a W, and the decoder's call, under the second kit's lists
--   lists_t, received_t                  two lists, and a received frame of 1 block
--   correction0_t, correction1_t         the sites to be flipped in its row words 0 and 1
--   correction_t                        those that the definition gives
--   SecondKit                          the facts; `second_kit` in proofs/Vectors.antt shows them
-- Assumes nothing.
use Rattle.std.specs.Prelude.{◌≡◌, List, [], ◌∷◌, ℕ, replicate}
use Rattle.staircase.specs.Lists.{tabulate}
use Rattle.staircase.specs.Design.{Params, Interleavers, params}
use Rattle.staircase.specs.Frame.{Frame, Site, row_sites}
use Rattle.staircase.specs.Frame.Site.{in_red}
use Rattle.staircase.specs.System.{system_entry}
use Rattle.staircase.specs.Decoder.{correction}
use Rattle.staircase.specs.Rules.{Verdict, red_length, kit_work, decoder_work, interleavers}
use Rattle.staircase.specs.Rules.Verdict.{accepted, refused}
use Rattle.staircase.specs.Calls.{kit_verdict, encode_call, Counts, Corrected, decode_call}

-- ---- the second kit

abbrev pub params_s : Params
params_s = params 4 1 2 0

abbrev pub self_s : List ℕ
self_s = 5 ∷ 0 ∷ 3 ∷ 0 ∷ 4 ∷ 0 ∷ 1 ∷ 0 ∷ 7 ∷ 0 ∷ 2 ∷ 0 ∷ 6 ∷ 0 ∷ 0 ∷ 0 ∷ []

abbrev pub parity_s : List ℕ
parity_s = 0 ∷ 0 ∷ 5 ∷ 0 ∷ 7 ∷ 0 ∷ 3 ∷ 0 ∷ 2 ∷ 0 ∷ 1 ∷ 0 ∷ 6 ∷ 0 ∷ 4 ∷ 0 ∷ []

abbrev pub inverse_s : List ℕ
inverse_s = 153 ∷ 70 ∷ 79 ∷ 115 ∷ 207 ∷ 56 ∷ 145 ∷ 233 ∷ []

abbrev pub system_s : List (List ℕ)
system_s = (1 ∷ 1 ∷ 1 ∷ 0 ∷ 0 ∷ 0 ∷ 1 ∷ 0 ∷ []) ∷ (0 ∷ 1 ∷ 1 ∷ 1 ∷ 0 ∷ 0 ∷ 1 ∷ 1 ∷ []) ∷ (0 ∷ 0 ∷ 1 ∷ 1 ∷ 0 ∷ 1 ∷ 0 ∷ 0 ∷ []) ∷ (1 ∷ 0 ∷ 0 ∷ 0 ∷ 0 ∷ 0 ∷ 1 ∷ 0 ∷ []) ∷ (1 ∷ 1 ∷ 0 ∷ 0 ∷ 1 ∷ 0 ∷ 0 ∷ 0 ∷ []) ∷ (0 ∷ 1 ∷ 0 ∷ 0 ∷ 1 ∷ 1 ∷ 1 ∷ 0 ∷ []) ∷ (0 ∷ 0 ∷ 0 ∷ 0 ∷ 0 ∷ 1 ∷ 1 ∷ 1 ∷ []) ∷ (0 ∷ 0 ∷ 1 ∷ 0 ∷ 1 ∷ 0 ∷ 0 ∷ 0 ∷ []) ∷ []

-- bit 3 of row 5 flipped
abbrev pub wrong_s : List ℕ
wrong_s = 153 ∷ 70 ∷ 79 ∷ 115 ∷ 207 ∷ 48 ∷ 145 ∷ 233 ∷ []

abbrev pub wrong_place_s : ℕ
wrong_place_s = 19

abbrev pub info_s : List ℕ
info_s = 1 ∷ 0 ∷ 1 ∷ 0 ∷ 0 ∷ 0 ∷ 1 ∷ 0 ∷ 1 ∷ 1 ∷ 0 ∷ 0 ∷ []

abbrev pub red_s : List ℕ
red_s = 1 ∷ 1 ∷ 1 ∷ 1 ∷ 1 ∷ 1 ∷ 0 ∷ 1 ∷ 1 ∷ 0 ∷ 1 ∷ 0 ∷ 0 ∷ 1 ∷ 1 ∷ 0 ∷ 0 ∷ 1 ∷ 1 ∷ 1 ∷ 0 ∷ 1 ∷ 0 ∷ 0 ∷ 0 ∷ 1 ∷ 0 ∷ 1 ∷ 1 ∷ 1 ∷ 0 ∷ 1 ∷ []

-- bytes 0 and 6 of the information and byte 15 of the redundancy flipped
abbrev pub received_s : Frame
received_s = record { info = 0 ∷ 0 ∷ 1 ∷ 0 ∷ 0 ∷ 0 ∷ 0 ∷ 0 ∷ 1 ∷ 1 ∷ 0 ∷ 0 ∷ []; red = 1 ∷ 1 ∷ 1 ∷ 1 ∷ 1 ∷ 1 ∷ 0 ∷ 1 ∷ 1 ∷ 0 ∷ 1 ∷ 0 ∷ 0 ∷ 1 ∷ 1 ∷ 1 ∷ 0 ∷ 1 ∷ 1 ∷ 1 ∷ 0 ∷ 1 ∷ 0 ∷ 0 ∷ 0 ∷ 1 ∷ 0 ∷ 1 ∷ 1 ∷ 1 ∷ 0 ∷ 1 ∷ [] }

abbrev pub counts_s : Counts
counts_s = record { rounds = 3; turned = 3; outside = 0; stuck = 0 }

abbrev pub unsettled_s : Frame
unsettled_s = record { info = 0 ∷ 0 ∷ 1 ∷ 0 ∷ []; red = 0 ∷ 1 ∷ 0 ∷ 0 ∷ 1 ∷ 1 ∷ 1 ∷ 1 ∷ 1 ∷ 1 ∷ 0 ∷ 1 ∷ 0 ∷ 0 ∷ 0 ∷ 1 ∷ [] }

abbrev pub unsettled_left_s : Frame
unsettled_left_s = record { info = 0 ∷ 0 ∷ 1 ∷ 0 ∷ []; red = 0 ∷ 1 ∷ 0 ∷ 0 ∷ 1 ∷ 1 ∷ 1 ∷ 0 ∷ 0 ∷ 1 ∷ 0 ∷ 1 ∷ 1 ∷ 0 ∷ 0 ∷ 1 ∷ [] }

abbrev pub unsettled_counts_s : Counts
unsettled_counts_s = record { rounds = 12; turned = 3; outside = 1; stuck = 0 }

abbrev pub kit_s : List ℕ → Verdict
kit_s w = kit_verdict 4 1 2 0 self_s parity_s w (kit_work params_s)

-- L blocks, and rounds 0
abbrev pub decoded_s : ℕ → Frame → Corrected
decoded_s L f = decode_call 4 1 2 0 L 0 self_s parity_s f.info f.red (decoder_work params_s L)

-- ---- two words with t 2

abbrev pub params_t : Params
params_t = params 5 2 2 0

abbrev pub lists_t : Interleavers
lists_t = record { self = 13 ∷ 7 ∷ 16 ∷ 2 ∷ 11 ∷ 0 ∷ 18 ∷ 5 ∷ 9 ∷ 14 ∷ 1 ∷ 19 ∷ 4 ∷ 10 ∷ 15 ∷ 6 ∷ 3 ∷ 17 ∷ 12 ∷ 8 ∷ []; parity = 6 ∷ 12 ∷ 1 ∷ 17 ∷ 3 ∷ 8 ∷ 14 ∷ 0 ∷ 19 ∷ 10 ∷ 5 ∷ 15 ∷ 2 ∷ 11 ∷ 7 ∷ 18 ∷ 9 ∷ 4 ∷ 16 ∷ 13 ∷ [] }

abbrev pub received_t : Frame
received_t = record { info = 1 ∷ 1 ∷ 1 ∷ 0 ∷ []; red = 1 ∷ 0 ∷ 1 ∷ 1 ∷ 1 ∷ 0 ∷ 1 ∷ 0 ∷ 1 ∷ 1 ∷ 0 ∷ 1 ∷ 0 ∷ 1 ∷ 1 ∷ 0 ∷ 0 ∷ 1 ∷ 1 ∷ 1 ∷ 0 ∷ 0 ∷ 1 ∷ 1 ∷ 0 ∷ 0 ∷ 1 ∷ 1 ∷ 0 ∷ 1 ∷ 1 ∷ 0 ∷ 1 ∷ 1 ∷ 1 ∷ 0 ∷ 1 ∷ 0 ∷ 1 ∷ 0 ∷ [] }

abbrev pub correction0_t : List Site
correction0_t = in_red 9 ∷ in_red 34 ∷ []

abbrev pub correction1_t : List Site
correction1_t = []

-- of row word a
abbrev pub correction_t : ℕ → List Site
correction_t a = correction params_t received_t (row_sites params_t lists_t 1 0 a)

pub record SecondKit : Type 0 where
  -- the rows of A
  pub system : tabulate 8 (λ i. tabulate 8 (system_entry params_s (interleavers params_s self_s parity_s) i)) ≡ system_s
  -- row 2, column 3 is the first wrong entry
  pub wrong_bit : kit_s wrong_s ≡ refused 9 wrong_place_s
  -- the kit passes, and the blocks have this redundancy; the buffer holds bytes 255 before the call
  pub encoded : encode_call 4 1 2 0 3 self_s parity_s inverse_s info_s (replicate (red_length params_s 3) 255) (kit_work params_s)
      ≡ record { verdict = accepted; red = red_s }
  -- row word 0 would need a bit of B0 and stays, so that column word 0 flips a right bit, which is flipped back in round 2 and does not count; round 3
  -- is idle
  pub corrected : decoded_s 3 received_s ≡ record { verdict = accepted; frame = record { info = info_s; red = red_s }; counts = counts_s }
  -- in round 1 row word 0 would need a bit of B0 and column word 0 one of the block after the last, and both stay; from round 2 on column word 0
  -- flips a bit that row word 1 flips back in the next round, so that no round is idle and all 12 are made; in the last one no word is stuck, and yet
  -- one is outside at the end
  pub unsettled : decoded_s 1 unsettled_s ≡ record { verdict = accepted; frame = unsettled_left_s; counts = unsettled_counts_s }
  -- two errors, one in X and one in Q
  pub two_errors : correction_t 0 ≡ correction0_t
  -- the codeword within two changes differs in a bit of B0 and one of X, and neither is flipped
  pub needs_b0 : correction_t 1 ≡ correction1_t
