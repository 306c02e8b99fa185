-- Rows of the test load from seed 0, as equations about the definitions of specs/Load.antt, which are to be found on every bench: the first states, the
-- information of four blocks under kit K, a frame of K with errors, and runs of it. K's blocks are one bit each.
--   info_k, red_k   blocks 0, 1 under K, and their group 0001 0110
--   LoadRows      the rows; `load_rows` in proofs/Load.antt shows them
-- Assumes nothing.
use Rattle.std.specs.Prelude.{◌≡◌, List, [], ◌∷◌, ℕ, ◌-◌, ◌^◌}
use Rattle.staircase.specs.Frame.{frame_of}
use Rattle.staircase.specs.Rules.Verdict.{accepted, refused}
use Rattle.staircase.specs.Load.{next_state, drawn, fill_call, errors_call, run_call}

abbrev pub info_k : List ℕ
info_k = 0 ∷ 1 ∷ []

abbrev pub red_k : List ℕ
red_k = 0 ∷ 0 ∷ 0 ∷ 1 ∷ 0 ∷ 1 ∷ 1 ∷ 0 ∷ []

pub record LoadRows : Type 0 where
  -- the first four states; their highest bits are 0, 0, 1, 1
  pub state1 : next_state 0 ≡ 0x3C6EF35F
  pub state2 : next_state 0x3C6EF35F ≡ 0x47502932
  pub state3 : next_state 0x47502932 ≡ 0xD1CCF6E9
  pub state4 : next_state 0xD1CCF6E9 ≡ 0xAAF95334
  pub filled : fill_call 4 1 1 0 4 0 (255 ∷ 255 ∷ 255 ∷ 255 ∷ []) ≡ record { verdict = accepted; info = 0 ∷ 0 ∷ 1 ∷ 1 ∷ []; state = 0xAAF95334 }
  -- the first draw is 0011010111111101
  pub first_draw : drawn 0 ≡ 13821
  -- the draws of the ten bits are 13821 39984 15152 18692 4891 34134 46775 46294 3754 6648: the first, fifth, ninth and tenth are below 13822
  pub errors : errors_call 4 1 1 0 2 0 13822 info_k red_k
      ≡ record { verdict = accepted; frame = frame_of (1 ∷ 1 ∷ []) (0 ∷ 0 ∷ 1 ∷ 1 ∷ 0 ∷ 1 ∷ 0 ∷ 1 ∷ []); state = 451923744 }
  -- a draw that is the limit does not turn its bit
  pub errors_at_limit : errors_call 4 1 1 0 2 0 13821 info_k red_k
      ≡ record { verdict = accepted; frame = frame_of (0 ∷ 1 ∷ []) (0 ∷ 0 ∷ 1 ∷ 1 ∷ 0 ∷ 1 ∷ 0 ∷ 1 ∷ []); state = 451923744 }
  -- a run across the border of the two buffers
  pub across : run_call 4 1 1 0 2 1 3 info_k red_k ≡ record { verdict = accepted; frame = frame_of (0 ∷ 0 ∷ []) (1 ∷ 1 ∷ 0 ∷ 1 ∷ 0 ∷ 1 ∷ 1 ∷ 0 ∷ []) }
  -- "cut at the frame's end", here of the greatest length that a call may be given; "a place past the end turns none"
  pub cut : run_call 4 1 1 0 2 8 (2 ^ 64 - 1) info_k red_k ≡ record { verdict = accepted; frame = frame_of (0 ∷ 1 ∷ []) (0 ∷ 0 ∷ 0 ∷ 1 ∷ 0 ∷ 1 ∷ 0 ∷ 1 ∷ []) }
  pub past : run_call 4 1 1 0 2 10 5 info_k red_k ≡ record { verdict = accepted; frame = frame_of info_k red_k }
  -- refusals: information of three bytes, redundancy of seven, and a byte of 2 in each buffer; no state is told
  pub short_info : fill_call 4 1 1 0 4 0 (255 ∷ 255 ∷ 255 ∷ []) ≡ record { verdict = refused 6 4; info = 255 ∷ 255 ∷ 255 ∷ []; state = 0 }
  pub short_red : run_call 4 1 1 0 2 0 1 info_k (0 ∷ 0 ∷ 0 ∷ 1 ∷ 0 ∷ 1 ∷ 1 ∷ [])
      ≡ record { verdict = refused 6 5; frame = frame_of info_k (0 ∷ 0 ∷ 0 ∷ 1 ∷ 0 ∷ 1 ∷ 1 ∷ []) }
  pub info_refused : run_call 4 1 1 0 2 0 1 (0 ∷ 2 ∷ []) red_k ≡ record { verdict = refused 10 1; frame = frame_of (0 ∷ 2 ∷ []) red_k }
  pub red_refused : errors_call 4 1 1 0 2 0 65536 info_k (0 ∷ 0 ∷ 0 ∷ 1 ∷ 0 ∷ 2 ∷ 1 ∷ 0 ∷ [])
      ≡ record { verdict = refused 10 7; frame = frame_of info_k (0 ∷ 0 ∷ 0 ∷ 1 ∷ 0 ∷ 2 ∷ 1 ∷ 0 ∷ []); state = 0 }
