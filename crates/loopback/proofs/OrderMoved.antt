-- Rule 10 before rule 9 in the loopback: which answers change.
--   loopback_order-moved   the claim, for every call
-- Assumes nothing.
use mathlib.Core.List.{List, [], ◌∷◌}
use Prim.Native.Nat.{ℕ}
use Rattle.staircase.specs.Design.{Params, Interleavers, params}
use Rattle.staircase.specs.Rules.{length_rule, kit_lengths, frame_lengths, interleavers, list_rule, spare_rule, content_rules}
use Rattle.staircase.proofs.OrderMoved.{bits-moved}
use Rattle.loopback.specs.Link.{number_rules, loopback_work, loopback_verdict}
use Rattle.loopback.specs.OrderMoved.{loopback_front, former_loopback, LoopbackOrderMoved}

pub loopback_order-moved : (m t M col L k : ℕ) (self parity w info red : List ℕ) (work : ℕ)
    → LoopbackOrderMoved m t M col L k self parity w info red work
unfolding loopback_verdict content_rules former_loopback loopback_front
loopback_order-moved m t M col L k self parity w info red work =
    let s : Params = params m t M col in
    let l : Interleavers = interleavers s self parity in
    bits-moved s l w info
    (number_rules m t M col L k ∷ kit_lengths s self parity w ∷ frame_lengths s L info red ∷ length_rule 6 work (loopback_work s L) ∷ list_rule s l ∷ [])
    (spare_rule s w)
