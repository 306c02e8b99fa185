-- A case for each list.
use mathlib.Core.Path.{◌≡◌, sym, ap₂, ◌∙◌}
use mathlib.Core.Bool.{true}
use Prim.Native.Nat.{ℕ, ◌+◌, ◌-◌, ◌<◌}
use native.Mathlib.Omega.{arith}
use Rattle.design.specs.Sizes.{params_of, order_of, lists_of}
use Rattle.rules.proofs.Entries.{entry-at}
use Rattle.decoder_lines.proofs.Links.{partner-first, partner-second}
use Rattle.decoder_lines.proofs.sent_to.Goals as goal

pub returns-then-q-n : goal.returns-then-q-n
returns-then-q-n c =
    let a = c.args in
    let n = order_of a.d in
    let h : a.q < n = omega (arith, c.if-q-n.true, c.order-n.ensures.0) in
    let e = c.entry.ensures.0 ∙ entry-at n a.own.now a.q h in (
      e ∙ sym (partner-first (params_of a.d) (lists_of a.d a.own.now a.parity.now) true a.q h),
      omega (arith, e, c.requires.1.own_permutes.below a.q h),
    )

pub returns : goal.returns
returns c =
    let a = c.args in
    let n = order_of a.d in
    let m : c.order-n.result ≡ n = c.order-n.ensures.0 in
    let h : a.q - c.order-n.result < n = omega (arith, c.requires.2, m) in
    let w : a.q ≡ n + (a.q - c.order-n.result) = omega (arith, c.if-q-n.false, m) in
    let e = c.entry-2.ensures.0 ∙ entry-at n a.parity.now (a.q - c.order-n.result) h in (
      ap₂ (λ (x y : ℕ). x + y) m e ∙ sym (partner-second (params_of a.d) (lists_of a.d a.own.now a.parity.now) true a.q (a.q - c.order-n.result) w),
      omega (arith, e, m, c.requires.1.parity_permutes.below (a.q - c.order-n.result) h),
    )
