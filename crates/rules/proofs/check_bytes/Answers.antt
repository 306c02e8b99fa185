-- Each check's refusal is the answer, and one that passes leaves it to the next.
use native.Mathlib.Omega.{arith}
use mathlib.Core.Path.{◌≡◌, refl, sym, ap, ◌∙◌}
use Prim.Native.Nat.{ℕ, ◌*◌}
use Rattle.staircase.specs.System.{row_bytes}
use Rattle.staircase.specs.Rules.{frame_bits}
use Rattle.design.specs.Sizes.{order_of}
use Rattle.answers.proofs.Checks.{refused_on, passed_then}
use Rattle.design.proofs.Allowed.{order-positive}
use Rattle.rules.specs.Bytes.{byte_rules}
use Rattle.rules.proofs.OfDesign.{lists-rule, spare-rule}
use Rattle.rules.proofs.check_bytes.Goals as goal

pub check_lists-requires : goal.check_lists-requires
check_lists-requires c =
    let h = c.requires in
    let e : c.order-n.result ≡ order_of c.args.d = c.order-n.ensures.0 in
    (omega (arith, h.own_length), omega (arith, h.parity_length), omega (arith, h.marks_length), omega (arith, h.allowed.order-high))

pub returns-in_err-check_lists : goal.returns-in_err-check_lists
unfolding byte_rules
returns-in_err-check_lists c =
    let a = c.args in
    let x = lists-rule a.d c.order-n.result c.order-n.ensures.0 a.own.now a.parity.now c.in_err-check_lists.ensures in
    refused_on _ x _ refl c.from_residual.ensures

pub check_spare-requires : goal.check_spare-requires
check_spare-requires c =
    let h = c.requires in
    let e : c.order-n.result ≡ order_of c.args.d = c.order-n.ensures.0 in
    ((λ l. h.inverse_length l ∙ ap (λ (k : ℕ). k * row_bytes k) (sym e)), omega (arith, e, order-positive c.args.d h.allowed), omega (arith, h.allowed.order-high))

pub returns-in_err-check_spare : goal.returns-in_err-check_spare
unfolding byte_rules
returns-in_err-check_spare c =
    let a = c.args in
    let x = lists-rule a.d c.order-n.result c.order-n.ensures.0 a.own.now a.parity.now c.in_ok-check_lists.ensures in
    let y = spare-rule a.d c.order-n.result c.order-n.ensures.0 a.inverse.now c.in_err-check_spare.ensures in
    refused_on _ y _ refl c.from_residual-in_err-check_spare.ensures ∙ passed_then _ x refl

pub returns-in_err-check_bits : goal.returns-in_err-check_bits
unfolding byte_rules frame_bits
returns-in_err-check_bits c =
    let a = c.args in
    let x = lists-rule a.d c.order-n.result c.order-n.ensures.0 a.own.now a.parity.now c.in_ok-check_lists.ensures in
    let y = spare-rule a.d c.order-n.result c.order-n.ensures.0 a.inverse.now c.in_ok-check_spare.ensures in
    refused_on _ c.in_err-check_bits.ensures _ refl c.from_residual-in_err-check_bits.ensures ∙ passed_then _ y refl ∙ passed_then _ x refl

pub returns : goal.returns
unfolding byte_rules frame_bits
returns c =
    let a = c.args in
    let x = lists-rule a.d c.order-n.result c.order-n.ensures.0 a.own.now a.parity.now c.in_ok-check_lists.ensures in
    let y = spare-rule a.d c.order-n.result c.order-n.ensures.0 a.inverse.now c.in_ok-check_spare.ensures in
    c.check_bits-2.ensures ∙ passed_then _ c.in_ok-check_bits.ensures refl ∙ passed_then _ y refl ∙ passed_then _ x refl
