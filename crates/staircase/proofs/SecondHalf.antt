-- The second half of document 01's rule 9 never refuses, so that a kit's answer with it is the answer without it.
--   then_same, then_none   what stands behind a rule counts only where the rule accepts, and not where it accepts too
--   halves-same         both halves are the first
--   second_half_never   of the kit checker and of the encoder, for all arguments
-- Assumes nothing.
use mathlib.Core.Path.{◌≡◌, refl, ap}
use mathlib.Core.List.{List}
use Prim.Native.Nat.{ℕ}
use Rattle.staircase.specs.Design.{Params, Interleavers, params}
use Rattle.staircase.specs.Rules.{Verdict, ◌then◌, design_rules, count_rule, length_rule, kit_lengths, frame_lengths, kit_work, interleavers, list_rule, spare_rule, inverse_rule, kit_rules, bit_rule}
use Rattle.staircase.specs.Rules.Verdict.{accepted, refused}
use Rattle.staircase.specs.Calls.{kit_verdict}
use Rattle.staircase.specs.OrderMoved.{front_rules, former_verdict}
use Rattle.staircase.specs.SecondHalf.{both_halves, kit_verdict_both, encode_verdict_both, SecondHalfNever}
use Rattle.staircase.proofs.System.{Proper}
use Rattle.staircase.proofs.BchCode.{proper_of}
use Rattle.staircase.proofs.Rules.{then_first, design_limits}
use Rattle.staircase.proofs.Demand2.{second_never}

pub then_same : (u v w : Verdict) → (u ≡ accepted → v ≡ w) → (u then v) ≡ (u then w)
then_same accepted v w h = h refl
then_same (refused n p) v w h = refl

pub then_none : (u v : Verdict) → (u ≡ accepted → v ≡ accepted) → (u then v) ≡ u
then_none accepted v h = h refl
then_none (refused n p) v h = refl

pub halves-same : (s : Params) (l : Interleavers) (w : List ℕ) → Proper s → both_halves s l w ≡ inverse_rule s l w
unfolding both_halves
halves-same s l w ok = then_none (inverse_rule s l w) _ (second_never s l w ok)

module _ (m t M col : ℕ) (self parity w : List ℕ) (work : ℕ) where
  abbrev s : Params
  s = params m t M col

  abbrev l : Interleavers
  l = interleavers (params m t M col) self parity

  design-halves : design_rules m t M col ≡ accepted → both_halves s l w ≡ inverse_rule s l w
  design-halves d = halves-same s l w (proper_of (design_limits m t M col d))

  checker : kit_verdict_both m t M col self parity w work ≡ kit_verdict m t M col self parity w work
  unfolding kit_verdict_both kit_verdict kit_rules
  checker =
      then_same (design_rules m t M col) _ _ (λ d.
      ap (λ (z : Verdict). kit_lengths s self parity w then length_rule 6 work (kit_work s) then list_rule s l then spare_rule s w then z) (design-halves d))

  encoder : (L : ℕ) (info red : List ℕ) → encode_verdict_both m t M col L self parity w info red work ≡ former_verdict m t M col L self parity w info red work
  unfolding encode_verdict_both former_verdict front_rules
  encoder L info red =
      then_same (front_rules m t M col L self parity w info red work) _ _ (λ e.
      ap (λ (z : Verdict). z then bit_rule 0 info) (design-halves (then_first (design_rules m t M col)
      (count_rule L then kit_lengths s self parity w then frame_lengths s L info red then length_rule 6 work (kit_work s) then list_rule s l then spare_rule s w) e)))

pub second_half_never : SecondHalfNever
second_half_never =
    record {
      checker = checker;
      encoder = λ m t M col L self parity w info red work. encoder m t M col self parity w work L info red;
    }
