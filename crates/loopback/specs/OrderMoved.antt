-- Document 02: "Rule 10 now comes before rule 9 .. formerly 9, now 10", of the loopback, whose first call is the encoder's. The theorem is
-- `loopback_order-moved` in proofs/OrderMoved.antt.
--   loopback_front        rules 1 to 8 of the loopback
--   former_loopback       its verdict with 9 before 10
--   LoopbackOrderMoved   the claim
-- Assumes nothing.
use Rattle.std.specs.Prelude.{List, ℕ}
use Rattle.staircase.specs.Design.{Params, params}
use Rattle.staircase.specs.Rules.{Verdict, ◌then◌, length_rule, kit_lengths, frame_lengths, interleavers, list_rule, spare_rule, inverse_rule, bit_rule}
use Rattle.staircase.specs.OrderMoved.{Moved}
use Rattle.loopback.specs.Link.{number_rules, loopback_work, loopback_verdict}

unfoldable pub loopback_front : ℕ → ℕ → ℕ → ℕ → ℕ → ℕ → List ℕ → List ℕ → List ℕ → List ℕ → List ℕ → ℕ → Verdict
loopback_front m t M col L k self parity w info red work =
    let s : Params = params m t M col in
    number_rules m t M col L k
    then kit_lengths s self parity w then frame_lengths s L info red then length_rule 6 work (loopback_work s L)
    then list_rule s (interleavers s self parity) then spare_rule s w

unfoldable pub former_loopback : ℕ → ℕ → ℕ → ℕ → ℕ → ℕ → List ℕ → List ℕ → List ℕ → List ℕ → List ℕ → ℕ → Verdict
former_loopback m t M col L k self parity w info red work =
    loopback_front m t M col L k self parity w info red work then inverse_rule (params m t M col) (interleavers (params m t M col) self parity) w
    then bit_rule 0 info

abbrev pub LoopbackOrderMoved : ℕ → ℕ → ℕ → ℕ → ℕ → ℕ → List ℕ → List ℕ → List ℕ → List ℕ → List ℕ → ℕ → Type 0
LoopbackOrderMoved m t M col L k self parity w info red work =
    Moved (loopback_front m t M col L k self parity w info red work) (bit_rule 0 info)
    (inverse_rule (params m t M col) (interleavers (params m t M col) self parity) w) (loopback_verdict m t M col L k self parity w info red work)
    (former_loopback m t M col L k self parity w info red work)
