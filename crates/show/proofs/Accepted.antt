-- Laws of accepted arguments: what each rule of showing says once it accepts.
--   accepted-part   the buffer that holds the part has it whole
--   accepted-size   blocks and groups are not empty
-- Assumes nothing.
use mathlib.Core.Path.{◌≡◌}
use mathlib.Core.List.{List}
use Prim.Native.Nat.{ℕ, ◌*◌, ◌<◌}
use native.Mathlib.Nat.{mul-pos}
use native.Mathlib.Omega.{arith}
use lib.ListN.{length}
use Rattle.staircase.specs.Design.{params, order, Limits}
use Rattle.staircase.specs.Frame.{groups}
use Rattle.staircase.specs.Rules.{Part, ◌then◌, design_rules, count_rule, part_rule, info_length, red_length, frame_lengths}
use Rattle.staircase.specs.Rules.Verdict.{accepted}
use Rattle.staircase.specs.Rules.Part.{block, group}
use Rattle.staircase.specs.Calls.{show_verdict}
use Rattle.staircase.proofs.Rules.{then_first, then_rest, design_limits, number_in, frame-lengths}
use Rattle.show.specs.Show.{frame_rules, HasPart}
use Rattle.show.proofs.Stretch.{stretch-of}

module _ (m t M col L : ℕ) (part : Part) (info red : List ℕ) (a : show_verdict m t M col L part info red ≡ accepted) where
  part-and_lengths : (part_rule L part then frame_lengths (params m t M col) L info red) ≡ accepted
  unfolding show_verdict
  part-and_lengths =
      then_rest (count_rule L) (part_rule L part then frame_lengths (params m t M col) L info red)
      (then_rest (design_rules m t M col) (count_rule L then part_rule L part then frame_lengths (params m t M col) L info red) a)

  part-accepted : part_rule L part ≡ accepted
  part-accepted = then_first (part_rule L part) (frame_lengths (params m t M col) L info red) part-and_lengths

  lengths_accepted : frame_lengths (params m t M col) L info red ≡ accepted
  lengths_accepted = then_rest (part_rule L part) (frame_lengths (params m t M col) L info red) part-and_lengths

  lengths : (length info ≡ info_length (params m t M col) L) × (length red ≡ red_length (params m t M col) L)
  lengths = frame-lengths (params m t M col) L info red lengths_accepted

  pub accepted-size : (0 < M * M) × (0 < 2 * order (params m t M col))
  unfolding show_verdict frame_rules
  accepted-size =
      let h : Limits m t M col = design_limits m t M col (then_first (design_rules m t M col) (frame_rules (params m t M col) L part info red) a) in
      let low : 0 < m = omega arith in
      let pos : 0 < M * (m * t) = mul-pos h.M-low (mul-pos low h.t-low) in (mul-pos h.M-low h.M-low, omega arith)

pub accepted-part : (m t M col L : ℕ) (part : Part) (info red : List ℕ) → show_verdict m t M col L part info red ≡ accepted
    → HasPart (params m t M col) part info red
unfolding HasPart
accepted-part m t M col L (block b) info red a =
    stretch-of (number_in L b (part-accepted m t M col L (block b) info red a)) (lengths m t M col L (block b) info red a).0
accepted-part m t M col L (group i) info red a =
    stretch-of (number_in (groups L) i (part-accepted m t M col L (group i) info red a)) (lengths m t M col L (group i) info red a).1
