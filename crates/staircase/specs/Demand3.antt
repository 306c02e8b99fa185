-- Demand 3: one claim about what the encoder's call and the decoder's call leave, over codewords and the two lists. The theorem is `demand3` in
-- proofs/Demand3.antt. Groups are counted from 0 here: group i is document 01's group i + 1, and stretch 2i of the information its block 2i + 1.
--   Kit, sizes, lists    a kit as it is lent; its sizes and its two lists
--   encode, decode       the two calls under a kit, with the working bytes that they want
--   Given                what the claim takes for given
--   EachWord             a fact of every row word and every column word
--   SameBut, SameButTwo  two buffers agree outside one stretch, outside two
--   Like                 a buffer of the same length that holds bits
--   Restored             what a decoder leaves that has found the frame again
--   Demand3              the claim
-- Assumes nothing.
use Rattle.std.specs.Prelude.{◌≡◌, true, ◌≢◌, List, ℕ, ◌+◌, ◌*◌, ◌/◌, ◌≤◌, ◌<◌, get_or, length}
use Rattle.bch.specs.Polynomial.{Bits}
use Rattle.bch.specs.Code.{distance}
use Rattle.staircase.specs.Design.{Params, Interleavers, params, order, most-blocks, most-rounds}
use Rattle.staircase.specs.Frame.{Frame, Word, frame_of, groups, row_at, column_at, read, in_code, outside}
use Rattle.staircase.specs.LineErrors.{line_errors}
use Rattle.staircase.specs.Rules.{design_rules, info_length, red_length, interleavers, kit_work, decoder_work}
use Rattle.staircase.specs.Rules.Verdict.{accepted}
use Rattle.staircase.specs.Calls.{Encoded, encode_call, Corrected, decode_call}
use Rattle.staircase.specs.Demand2.{KitPasses, FitsOrder}

-- "A kit is a design, both lists and a matrix W."
pub record Kit : Type 0 where
  pub m : ℕ
  pub t : ℕ
  pub M : ℕ
  pub col : ℕ
  pub self : List ℕ
  pub parity : List ℕ
  pub inverse : List ℕ

abbrev pub sizes : Kit → Params
sizes K = params K.m K.t K.M K.col

abbrev pub lists : Kit → Interleavers
lists K = interleavers (sizes K) K.self K.parity

-- the encoder's call on L blocks of information, over what the redundancy buffer held
abbrev pub encode : Kit → ℕ → List ℕ → List ℕ → Encoded
encode K L info old = encode_call K.m K.t K.M K.col L K.self K.parity K.inverse info old (kit_work (sizes K))

-- the decoder's call on a received frame of L blocks, with k rounds
abbrev pub decode : Kit → ℕ → ℕ → Frame → Corrected
decode K L k f = decode_call K.m K.t K.M K.col L k K.self K.parity f.info f.red (decoder_work (sizes K) L)

-- "Take any kit that passes by 2's rule, any allowed number of blocks and any information, and let the encoder make the frame, whatever its
-- redundancy buffer held."
pub record Given (K : Kit) (L : ℕ) (info old : List ℕ) : Type 0 where
  pub design : design_rules K.m K.t K.M K.col ≡ accepted
  pub fits : FitsOrder (order (sizes K)) K.self K.parity K.inverse
  pub passes : KitPasses (sizes K) (lists K) K.inverse
  pub some : 1 ≤ L
  pub few : L ≤ most-blocks
  pub bits : Bits info
  pub info-fits : length info ≡ info_length (sizes K) L
  pub old_fits : length old ≡ red_length (sizes K) L

pub record EachWord (s : Params) (l : Interleavers) (L : ℕ) (F : Word → Type 0) : Type 0 where
  pub rows : (i a : ℕ) → i < groups L → a < s.M → F (row_at s l L i a)
  pub columns : (i a : ℕ) → i < groups L → a < s.M → F (column_at s L i a)

-- outside stretch i of stretches of one size; outside stretches i and j
abbrev pub SameBut : ℕ → ℕ → List ℕ → List ℕ → Type 0
SameBut size i u v = (k : ℕ) → k / size ≢ i → get_or u k 0 ≡ get_or v k 0

abbrev pub SameButTwo : ℕ → ℕ → ℕ → List ℕ → List ℕ → Type 0
SameButTwo size i j u v = (k : ℕ) → k / size ≢ i → k / size ≢ j → get_or u k 0 ≡ get_or v k 0

abbrev pub Like : List ℕ → List ℕ → Type 0
Like u v = (length v ≡ length u) × Bits v

-- accepted, with the frame f in the buffers, the line errors of the received frame counted, no word outside and none stuck
abbrev pub Restored : Frame → Frame → Corrected → Type 0
Restored received f c =
    (rounds : ℕ) × (c ≡ record { verdict = accepted; frame = f; counts = record { rounds = rounds; turned = line_errors received f; outside = 0; stuck = 0 } })

pub record Demand3 (K : Kit) (L : ℕ) (info old : List ℕ) : Type 0 where
  -- the encoder's call is accepted, and leaves `made`
  pub made : List ℕ
  pub encodes : encode K L info old ≡ record { verdict = accepted; red = made }
  -- "Then all row and column words are in the BCH code", each in its own
  pub all_in_code : EachWord (sizes K) (lists K) L (λ x. in_code x.code (frame_of info made) x.sites ≡ true)
  -- "Every other choice of redundancy beside the same information leaves some word outside it."
  pub only_choice : (other : List ℕ) → Like made other → other ≢ made → 0 < outside (sizes K) (lists K) L (frame_of info other)
  -- "Where two such frames under one kit, equally long, differ in information only in block 2i-1, their redundancy differs at most in group i",
  -- whatever either redundancy buffer held
  pub reach_odd : (info₂ old₂ : List ℕ) → Like info info₂ → length old₂ ≡ length old
      → (i : ℕ) → SameBut (K.M * K.M) (2 * i) info info₂ → SameBut (2 * order (sizes K)) i made (encode K L info₂ old₂).red
  -- "where only in block 2i, at most in groups i and i+1."
  pub reach_even : (info₂ old₂ : List ℕ) → Like info info₂ → length old₂ ≡ length old
      → (i : ℕ) → SameBut (K.M * K.M) (2 * i + 1) info info₂ → SameButTwo (2 * order (sizes K)) i (i + 1) made (encode K L info₂ old₂).red
  -- "Whatever bits of such a frame the link turns, if no word then has more than t wrong bits, the decoder, at every allowed number of rounds, 0
  -- included, leaves exactly that frame in the buffers and counts no word outside at the end."
  pub restores : (received : Frame) → Like info received.info → Like made received.red
      → EachWord (sizes K) (lists K) L (λ x. distance (read (frame_of info made) x.sites) (read received x.sites) ≤ K.t)
      → (k : ℕ) → k ≤ most-rounds → Restored received (frame_of info made) (decode K L k received)
