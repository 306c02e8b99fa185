-- Each check's refusal is the answer, and one that passes leaves it to the next. A frame whose lengths passed is small.
use mathlib.Core.Path.{refl, sym, ◌∙◌}
use native.Mathlib.Omega.{arith}
use lib.ListN.{length}
use Rattle.staircase.specs.Rules.{frame_bits}
use Rattle.staircase.proofs.Rules.{count_limits, frame-lengths}
use Rattle.design.specs.Sizes.{params_of}
use Rattle.answers.proofs.Checks.{refused_on, passed_then, check_passed}
use Rattle.rules.proofs.Accepted.{frame_small}
use Rattle.load.specs.Checks.{turn_rules}
use Rattle.load.proofs.check_frame.Goals as goal

pub returns-in_err-check_count : goal.returns-in_err-check_count
unfolding turn_rules
returns-in_err-check_count c = refused_on _ c.in_err-check_count.ensures _ refl c.from_residual.ensures

pub check_frame_lengths-requires : goal.check_frame_lengths-requires
check_frame_lengths-requires c = (count_limits _ (sym c.in_ok-check_count.ensures ∙ check_passed refl)).1

pub returns-in_err-check_frame_lengths : goal.returns-in_err-check_frame_lengths
unfolding turn_rules
returns-in_err-check_frame_lengths c =
    refused_on _ c.in_err-check_frame_lengths.ensures _ refl c.from_residual-in_err-check_frame_lengths.ensures
    ∙ passed_then _ c.in_ok-check_count.ensures refl

pub returns-in_err-check_bits : goal.returns-in_err-check_bits
unfolding turn_rules frame_bits
returns-in_err-check_bits c =
    refused_on _ c.in_err-check_bits.ensures _ refl c.from_residual-in_err-check_bits.ensures
    ∙ passed_then _ c.in_ok-check_frame_lengths.ensures refl
    ∙ passed_then _ c.in_ok-check_count.ensures refl

pub check_bits-requires-2 : goal.check_bits-requires-2
check_bits-requires-2 c =
    let a = c.args in
    let few = (count_limits a.blocks (sym c.in_ok-check_count.ensures ∙ check_passed refl)).1 in
    let long = frame-lengths (params_of a.d) a.blocks a.info.now a.red.now (sym c.in_ok-check_frame_lengths.ensures ∙ check_passed refl) in
    omega (arith, frame_small a.d a.blocks (length a.info.now) (length a.red.now) c.requires few long.0 long.1)

pub returns : goal.returns
unfolding turn_rules frame_bits
returns c =
    c.check_bits-2.ensures
    ∙ passed_then _ c.in_ok-check_bits.ensures refl
    ∙ passed_then _ c.in_ok-check_frame_lengths.ensures refl
    ∙ passed_then _ c.in_ok-check_count.ensures refl
