-- What more rounds leave of an original staircase frame, and what the decoder counts: "the results are those of frames". The theorem is `original_rounds`
-- in proofs/Rounds.antt, for all arguments, also where a call is refused.
--   OriginalRounds    the claim, about calls of the decoder with one buffer
-- Assumes nothing.
use Rattle.std.specs.Prelude.{◌≡◌, List, ℕ, ◌≤◌, ◌<◌, length}
use Rattle.bch.specs.Code.{distance}
use Rattle.staircase.specs.Design.{params}
use Rattle.staircase.specs.Frame.{outside_each}
use Rattle.staircase.specs.Decoder.{round_of, rounds_allowed}
use Rattle.staircase.specs.Outcomes.{before_last}
use Rattle.staircase.specs.Rules.Verdict.{accepted}
use Rattle.original.specs.Frame.{row_words, buffer_of}
use Rattle.original.specs.Calls.{original_decode_call}

pub record OriginalRounds (m t M col L : ℕ) (l : List ℕ) (work : ℕ) : Type 0 where
  -- "If a decode ends with no word outside, any larger number of rounds (0 read as 12 on either side) gives the same bits"
  pub settled : (j k : ℕ) → (original_decode_call m t M col L j l work).verdict ≡ accepted → (original_decode_call m t M col L k l work).verdict ≡ accepted
      → (original_decode_call m t M col L j l work).counts.outside ≡ 0 → rounds_allowed j ≤ rounds_allowed k
      → (original_decode_call m t M col L k l work).buffer ≡ (original_decode_call m t M col L j l work).buffer
  -- "the number of stuck verdicts in the last round made": where that round turns no bit, it is the number of words outside at the end
  pub idle : (k : ℕ)
      → (round_of (row_words (params m t M col) L) (before_last (row_words (params m t M col) L) (rounds_allowed k) (buffer_of l))).flips ≡ 0
      → (original_decode_call m t M col L k l work).counts.stuck ≡ (original_decode_call m t M col L k l work).counts.outside
  -- and so it is where fewer rounds are made than allowed
  pub early : (k : ℕ) → (original_decode_call m t M col L k l work).counts.rounds < rounds_allowed k
      → (original_decode_call m t M col L k l work).counts.stuck ≡ (original_decode_call m t M col L k l work).counts.outside
  -- "the number of sent bits in which the mended frame differs from the copy", and so never more than there are
  pub turned : (k : ℕ) → (original_decode_call m t M col L k l work).counts.turned ≡ distance l (original_decode_call m t M col L k l work).buffer
  pub bound : (k : ℕ) → (original_decode_call m t M col L k l work).counts.turned ≤ length l
  -- a buffer of which no row is outside the code stays as it is, by one idle round
  pub stays : (k : ℕ) → (original_decode_call m t M col L k l work).verdict ≡ accepted → outside_each (buffer_of l) (row_words (params m t M col) L) ≡ 0
      → original_decode_call m t M col L k l work ≡ record { verdict = accepted; buffer = l; counts = record { rounds = 1; turned = 0; outside = 0; stuck = 0 } }
  -- and so does what a call has restored
  pub again : (k : ℕ) → (original_decode_call m t M col L k l work).verdict ≡ accepted → (original_decode_call m t M col L k l work).counts.outside ≡ 0
      → original_decode_call m t M col L k (original_decode_call m t M col L k l work).buffer work
      ≡ record {
        verdict = accepted;
        buffer = (original_decode_call m t M col L k l work).buffer;
        counts = record { rounds = 1; turned = 0; outside = 0; stuck = 0 };
      }
