-- A refusal of rule 6 is the answer; else that of rules 7 and 8.
use native.Mathlib.Omega.{arith}
use mathlib.Core.Path.{◌≡◌, refl, ◌∙◌}
use Rattle.design.specs.Sizes.{order_of}
use Rattle.answers.proofs.Checks.{refused_on, passed_then}
use Rattle.text_kit_write.specs.Checks.{text_rules}
use Rattle.text_kit_write.proofs.WriteCall.{lengths_passed, text-judged}
use Rattle.text_kit_write.proofs.check_text.Goals as goal

pub returns-in_err-check_kit_lengths : goal.returns-in_err-check_kit_lengths
unfolding text_rules
returns-in_err-check_kit_lengths c = refused_on _ c.in_err-check_kit_lengths.ensures _ refl c.from_residual.ensures

pub kit_length-requires : goal.kit_length-requires
kit_length-requires c =
    let a = c.args in
    let f = lengths_passed a.d a.own.now a.parity.now a.inverse.now c.check_kit_lengths.ensures c.in_ok-check_kit_lengths.was in
    (c.requires, f.self_length, f.parity_length)

pub returns-in_err-check_length : goal.returns-in_err-check_length
unfolding text_rules
returns-in_err-check_length c =
    let a = c.args in
    let y = text-judged a.d a.own.now a.parity.now a.inverse.now a.length c.in_err-check_length.ensures c.kit_length.ensures in
    refused_on _ y _ refl c.from_residual-in_err-check_length.ensures ∙ passed_then _ c.in_ok-check_kit_lengths.ensures refl

pub check_bytes-requires : goal.check_bytes-requires
check_bytes-requires c =
    let a = c.args in
    let e : c.order-n.result ≡ order_of a.d = c.order-n.ensures.0 in
    let fits = lengths_passed a.d a.own.now a.parity.now a.inverse.now c.check_kit_lengths.ensures c.in_ok-check_kit_lengths.was in
    record {
      allowed = c.requires;
      own_length = fits.self_length;
      parity_length = fits.parity_length;
      inverse_length = λ l. fits.inverse_length;
      frame_small = omega arith;
      marks_length = omega (arith, e);
    }

pub returns : goal.returns
unfolding text_rules
returns c =
    let a = c.args in
    let y = text-judged a.d a.own.now a.parity.now a.inverse.now a.length c.in_ok-check_length.ensures c.kit_length.ensures in
    c.check_bytes.ensures ∙ passed_then _ y refl ∙ passed_then _ c.in_ok-check_kit_lengths.ensures refl
