-- What is promised of original staircase frames: one claim about what the encoder's call and the decoder's call leave. The theorem is `original_demand`
-- in proofs/Demand.antt. Blocks are counted from 0 here: block b is the paper's block b + 1.
--   InfoBits, SameInfo     the information of a buffer is bits; two buffers have the same information
--   SameInfoBefore         the same in the blocks before block c
--   OriginalGiven          what the claim takes for given
--   RestoredBuffer         what a decoder leaves that has found the buffer again
--   OriginalDemand         the claim
-- Assumes nothing.
use Rattle.std.specs.Prelude.{◌≡◌, true, ◌≢◌, List, ℕ, ◌-◌, ◌*◌, ◌%◌, ◌≤◌, ◌<◌, get_or, length}
use Rattle.bch.specs.Code.{distance}
use Rattle.staircase.specs.Design.{Params, params, most-blocks, most-rounds}
use Rattle.staircase.specs.Frame.{read, in_code, outside_each}
use Rattle.staircase.specs.Rules.{info_length}
use Rattle.staircase.specs.Rules.Verdict.{accepted}
use Rattle.staircase.specs.Demand3.{Like}
use Rattle.original.specs.Frame.{row_sites, row_words, buffer_of}
use Rattle.original.specs.Rules.{original_rules, original_work}
use Rattle.original.specs.Calls.{original_encode_call, CorrectedBuffer, original_decode_call}

-- byte k is in one of the first M - r columns of its block
abbrev pub InfoBits : Params → List ℕ → Type 0
InfoBits s l = (k : ℕ) → k % s.M < s.M - s.r → get_or l k 0 < 2

abbrev pub SameInfo : Params → List ℕ → List ℕ → Type 0
SameInfo s l v = (k : ℕ) → k % s.M < s.M - s.r → get_or l k 0 ≡ get_or v k 0

abbrev pub SameInfoBefore : Params → ℕ → List ℕ → List ℕ → Type 0
SameInfoBefore s c l v = (k : ℕ) → k < c * (s.M * s.M) → k % s.M < s.M - s.r → get_or l k 0 ≡ get_or v k 0

-- "Whole blocks stand in one buffer", with any information; the last r columns may hold anything
pub record OriginalGiven (m t M col L : ℕ) (l : List ℕ) : Type 0 where
  pub design : original_rules m t M col ≡ accepted
  pub some : 1 ≤ L
  pub few : L ≤ most-blocks
  pub fits : length l ≡ info_length (params m t M col) L
  pub bits : InfoBits (params m t M col) l

-- accepted, with the buffer `made`; the turned bits are the wrong ones, no word is outside the code and none was stuck
abbrev pub RestoredBuffer : List ℕ → List ℕ → CorrectedBuffer → Type 0
RestoredBuffer received made c =
    (rounds : ℕ)
    × (c ≡ record { verdict = accepted; buffer = made; counts = record { rounds = rounds; turned = distance received made; outside = 0; stuck = 0 } })

pub record OriginalDemand (m t M col L : ℕ) (l : List ℕ) : Type 0 where
  -- the encoder's call is accepted, and leaves `made`
  pub made : List ℕ
  pub encodes : original_encode_call m t M col L l ≡ record { verdict = accepted; buffer = made }
  -- "the encoder writes only their last r columns"
  pub keeps : SameInfo (params m t M col) made l
  -- "makes every row a codeword"
  pub all_in_code : (b a : ℕ) → b < L → a < M → in_code (params m t M col) (buffer_of made) (row_sites (params m t M col) b a) ≡ true
  -- "The parity is the only one that makes every row a codeword"
  pub only_choice : (other : List ℕ) → Like made other → SameInfo (params m t M col) other l → other ≢ made
      → 0 < outside_each (buffer_of other) (row_words (params m t M col) L)
  -- "a changed block may alter its own and every later parity, never an earlier one": information that differs in no block before block c changes no
  -- byte before it, whatever the parity of either buffer held
  pub reach : (l₂ : List ℕ) → OriginalGiven m t M col L l₂ → (c : ℕ) → SameInfoBefore (params m t M col) c l l₂
      → (k : ℕ) → k < c * (M * M) → get_or made k 0 ≡ get_or (original_encode_call m t M col L l₂).buffer k 0
  -- "copies with at most t wrong bits a word are recovered", at every allowed number of rounds, 0 included
  pub restores : (received : List ℕ) → Like made received
      → ((b a : ℕ) → b < L → a < M
      → distance (read (buffer_of made) (row_sites (params m t M col) b a)) (read (buffer_of received) (row_sites (params m t M col) b a)) ≤ t)
      → (k : ℕ) → k ≤ most-rounds → RestoredBuffer received made (original_decode_call m t M col L k received (original_work (params m t M col) L))
