-- Document 02, U9: "Either every frame is encoded as it would be alone, or none is touched. A block changed in one frame alters no other frame's
-- groups, and within its own only those already named for single frames." The theorem is `batch-frames` in proofs/Batch.antt. Frames and groups are
-- counted from 0 here.
--   encode_batch     the call on n frames under a kit
--   info_at, red_at   frame f of the information, and of the redundancy
--   BatchFrames     the claim
-- Assumes nothing.
use Rattle.std.specs.Prelude.{◌≡◌, ◌≢◌, ◌↔◌, List, ℕ, ◌+◌, ◌*◌, ◌≤◌, ◌<◌, length}
use Rattle.staircase.specs.Design.{order}
use Rattle.staircase.specs.Rules.{info_length, red_length, kit_work}
use Rattle.staircase.specs.Rules.Verdict.{accepted}
use Rattle.staircase.specs.Calls.{Encoded}
use Rattle.staircase.specs.Batch.{most-frames, frame_at, batch_call}
use Rattle.staircase.specs.Demand3.{Kit, sizes, encode, SameBut, SameButTwo}

-- n frames of L blocks, over what the joined redundancy buffer held
abbrev pub encode_batch : Kit → ℕ → ℕ → List ℕ → List ℕ → ℕ → Encoded
encode_batch K L n info red work = batch_call K.m K.t K.M K.col L n K.self K.parity K.inverse info red work

abbrev pub info_at : Kit → ℕ → List ℕ → ℕ → List ℕ
info_at K L info f = frame_at (info_length (sizes K) L) info f

abbrev pub red_at : Kit → ℕ → List ℕ → ℕ → List ℕ
red_at K L red f = frame_at (red_length (sizes K) L) red f

pub record BatchFrames (K : Kit) (L n : ℕ) (info red : List ℕ) (work : ℕ) : Type 0 where
  -- "Either every frame is encoded as it would be alone", whatever its redundancy buffer held
  pub alone : (encode_batch K L n info red work).verdict ≡ accepted → (f : ℕ) → f < n → (old : List ℕ) → length old ≡ red_length (sizes K) L
      → encode K L (info_at K L info f) old ≡ record { verdict = accepted; red = red_at K L (encode_batch K L n info red work).red f }
  -- and the buffer holds these frames and nothing else
  pub whole : (encode_batch K L n info red work).verdict ≡ accepted → length (encode_batch K L n info red work).red ≡ n * red_length (sizes K) L
  -- "or none is touched"
  pub untouched : (encode_batch K L n info red work).verdict ≢ accepted → (encode_batch K L n info red work).red ≡ red
  -- joined buffers of their lengths are accepted exactly when each frame is
  pub exactly : length info ≡ n * info_length (sizes K) L → length red ≡ n * red_length (sizes K) L
      → ((encode_batch K L n info red (kit_work (sizes K))).verdict ≡ accepted)
      ↔ ((1 ≤ n) × (n ≤ most-frames) × ((f : ℕ) → f < n → (encode K L (info_at K L info f) (red_at K L red f)).verdict ≡ accepted))
  -- "A block changed in one frame alters no other frame's groups", whatever either redundancy buffer held
  pub others : (info₂ red₂ : List ℕ) → (encode_batch K L n info red work).verdict ≡ accepted → (encode_batch K L n info₂ red₂ work).verdict ≡ accepted
      → (f : ℕ) → SameBut (info_length (sizes K) L) f info info₂ → (k : ℕ) → k < n → k ≢ f
      → red_at K L (encode_batch K L n info red work).red k ≡ red_at K L (encode_batch K L n info₂ red₂ work).red k
  -- "and within its own only those already named for single frames": block 2i + 1 alters group i at most, and block 2i + 2 groups i and i + 1
  pub reach_odd : (info₂ red₂ : List ℕ) → (encode_batch K L n info red work).verdict ≡ accepted → (encode_batch K L n info₂ red₂ work).verdict ≡ accepted
      → (f : ℕ) → f < n → (i : ℕ) → SameBut (K.M * K.M) (2 * i) (info_at K L info f) (info_at K L info₂ f)
      → SameBut (2 * order (sizes K)) i (red_at K L (encode_batch K L n info red work).red f) (red_at K L (encode_batch K L n info₂ red₂ work).red f)
  pub reach_even : (info₂ red₂ : List ℕ) → (encode_batch K L n info red work).verdict ≡ accepted → (encode_batch K L n info₂ red₂ work).verdict ≡ accepted
      → (f : ℕ) → f < n → (i : ℕ) → SameBut (K.M * K.M) (2 * i + 1) (info_at K L info f) (info_at K L info₂ f)
      → SameButTwo (2 * order (sizes K)) i (i + 1) (red_at K L (encode_batch K L n info red work).red f) (red_at K L (encode_batch K L n info₂ red₂ work).red f)
