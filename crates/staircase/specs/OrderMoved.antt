-- Document 02: "Rule 10 now comes before rule 9. The answers that change are the encoder's where none of rules 1 to 8 refuses, some information byte
-- exceeds 1 and W is wrong: formerly 9, now 10." Said of each call that has both rules; the loopback's is in its own crate. The theorems are `order-moved`
-- and `batch-order-moved` in proofs/OrderMoved.antt.
--   Moved              which answers change where two rules change places behind some others, and how
--   front_rules, batch_front         rules 1 to 8 of the encoder, and of the encoder of several frames
--   former_verdict, former_batch     their verdicts with 9 before 10
--   OrderMoved, BatchOrderMoved    the claims
-- Assumes nothing.
use Rattle.std.specs.Prelude.{◌≡◌, ◌≢◌, ◌↔◌, List, ℕ}
use Rattle.staircase.specs.Design.{Params, params}
use Rattle.staircase.specs.Rules.{Verdict, ◌then◌, design_rules, count_rule, length_rule, kit_lengths, frame_lengths, kit_work, interleavers, list_rule, spare_rule, inverse_rule, bit_rule}
use Rattle.staircase.specs.Rules.Verdict.{accepted}
use Rattle.staircase.specs.Calls.{encode_verdict}
use Rattle.staircase.specs.Batch.{batch_rule, batch_lengths, batch_verdict}

-- the rules before both, the one that is asked earlier now, the one that was asked earlier formerly, and the two verdicts
pub record Moved (front earlier later now former : Verdict) : Type 0 where
  -- where the answer changes
  pub where_changed : (now ≢ former) ↔ ((front ≡ accepted) × (earlier ≢ accepted) × (later ≢ accepted))
  -- "formerly 9, now 10"
  pub changed : now ≢ former → (former ≡ later) × (now ≡ earlier)

-- ---- the encoder

unfoldable pub front_rules : ℕ → ℕ → ℕ → ℕ → ℕ → List ℕ → List ℕ → List ℕ → List ℕ → List ℕ → ℕ → Verdict
front_rules m t M col L self parity w info red work =
    let s : Params = params m t M col in
    design_rules m t M col then count_rule L
    then kit_lengths s self parity w then frame_lengths s L info red then length_rule 6 work (kit_work s)
    then list_rule s (interleavers s self parity) then spare_rule s w

unfoldable pub former_verdict : ℕ → ℕ → ℕ → ℕ → ℕ → List ℕ → List ℕ → List ℕ → List ℕ → List ℕ → ℕ → Verdict
former_verdict m t M col L self parity w info red work =
    front_rules m t M col L self parity w info red work then inverse_rule (params m t M col) (interleavers (params m t M col) self parity) w then bit_rule 0 info

abbrev pub OrderMoved : ℕ → ℕ → ℕ → ℕ → ℕ → List ℕ → List ℕ → List ℕ → List ℕ → List ℕ → ℕ → Type 0
OrderMoved m t M col L self parity w info red work =
    Moved (front_rules m t M col L self parity w info red work) (bit_rule 0 info) (inverse_rule (params m t M col) (interleavers (params m t M col) self parity) w)
    (encode_verdict m t M col L self parity w info red work) (former_verdict m t M col L self parity w info red work)

-- ---- the encoder of n frames: "rule 10's place is counted over the joined information"

unfoldable pub batch_front : ℕ → ℕ → ℕ → ℕ → ℕ → ℕ → List ℕ → List ℕ → List ℕ → List ℕ → List ℕ → ℕ → Verdict
batch_front m t M col L n self parity w info red work =
    let s : Params = params m t M col in
    design_rules m t M col then count_rule L then batch_rule n
    then kit_lengths s self parity w then batch_lengths s L n info red then length_rule 6 work (kit_work s)
    then list_rule s (interleavers s self parity) then spare_rule s w

unfoldable pub former_batch : ℕ → ℕ → ℕ → ℕ → ℕ → ℕ → List ℕ → List ℕ → List ℕ → List ℕ → List ℕ → ℕ → Verdict
former_batch m t M col L n self parity w info red work =
    batch_front m t M col L n self parity w info red work then inverse_rule (params m t M col) (interleavers (params m t M col) self parity) w then bit_rule 0 info

abbrev pub BatchOrderMoved : ℕ → ℕ → ℕ → ℕ → ℕ → ℕ → List ℕ → List ℕ → List ℕ → List ℕ → List ℕ → ℕ → Type 0
BatchOrderMoved m t M col L n self parity w info red work =
    Moved (batch_front m t M col L n self parity w info red work) (bit_rule 0 info) (inverse_rule (params m t M col) (interleavers (params m t M col) self parity) w)
    (batch_verdict m t M col L n self parity w info red work) (former_batch m t M col L n self parity w info red work)
