-- The call ends at a design that is refused, with its lists' lengths, or with both lists filled.
use Rattle.answers.specs.Answers.{verdict_of}
use mathlib.Core.Path.{◌≡◌, refl, ap, ◌∙◌}
use Prim.Native.Nat.{ℕ}
use native.Mathlib.Omega.{arith}
use Rattle.staircase.specs.Spread.{list_bytes}
use Rattle.staircase.specs.Mixed.{mixed_to, MixedLists}
use Rattle.answers.proofs.Checks.{handed_on}
use Rattle.generator.specs.Answers.{load_state}
use Rattle.design.specs.Sizes.{params_of, order_of}
use Rattle.design.proofs.Answers.{made-allowed}
use Rattle.kit_spread.proofs.SpreadCall.{list_refuses, list_passes, lists-sized, mixed-refused, mixed-filled}
use Rattle.kit_spread.proofs.mixed_lists_col.Goals as goal

fields : {x y : MixedLists} → x ≡ y → (x.verdict ≡ y.verdict) × (x.self ≡ y.self) × (x.parity ≡ y.parity) × (x.state ≡ y.state)
fields e = (
  ap (λ (z : MixedLists). z.verdict) e,
  ap (λ (z : MixedLists). z.self) e,
  ap (λ (z : MixedLists). z.parity) e,
  ap (λ (z : MixedLists). z.state) e,
)

pub returns-in_err-d : goal.returns-in_err-d
unfolding load_state
returns-in_err-d c =
    let a = c.args in
    let h = c.from_residual.ensures in
    let e = fields (mixed-refused a.own.now a.parity.now a.m a.t a.size a.col a.seed
    (list_refuses a.own.now a.parity.now a.m a.t a.size a.col _ _ c.in_err-d.ensures.0 h)) in
    (e.0, e.1, e.2, ap load_state (handed_on c.from_residual.result h.1) ∙ e.3)

pub mix_list-between-requires : goal.mix_list-between-requires
mix_list-between-requires c =
    let a = c.args in
    let n = c.in_ok-d.ensures in
    (made-allowed refl n.2, omega arith, (lists-sized a.own.now a.parity.now a.m a.t a.size a.col _ n.0 n.1).0)

pub mix_list-requires : goal.mix_list-requires
mix_list-requires c =
    let a = c.args in
    let n = c.in_ok-d.ensures in
    (made-allowed refl n.2, c.r.ensures.1, (lists-sized a.own.now a.parity.now a.m a.t a.size a.col _ n.0 n.1).1)

pub returns : goal.returns
unfolding verdict_of load_state
returns c =
    let a = c.args in
    let d = c.in_ok-d.d in
    let n = c.in_ok-d.ensures in
    let v = list_passes a.own.now a.parity.now a.m a.t a.size a.col d n.0 n.1 in
    let first = c.mix_list-between in
    let second = c.mix_list in
    let by = ap (λ (by : ℕ). list_bytes (order_of d) (mixed_to (params_of d) by first.result)) c.r.ensures.0 in
    fields (mixed-filled a.own.now a.parity.now a.m a.t a.size a.col a.seed _ _ first.result second.result v first.ensures
    (second.ensures.0 ∙ by, second.ensures.1))
