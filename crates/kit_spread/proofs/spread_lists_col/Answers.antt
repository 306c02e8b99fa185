-- The call ends at a design that is refused, with its lists' lengths, or with both lists filled.
use mathlib.Core.Path.{◌≡◌, refl, ap, ◌∙◌}
use Prim.Native.Nat.{ℕ}
use native.Mathlib.Omega.{arith}
use Rattle.staircase.specs.Spread.{turned_to, list_bytes, SpreadLists}
use Rattle.answers.proofs.Checks.{check_passed}
use Rattle.design.specs.Sizes.{params_of, order_of}
use Rattle.design.proofs.Answers.{made-allowed}
use Rattle.kit_spread.proofs.SpreadCall.{list_refuses, list_passes, lists-sized, spread-refused, spread-filled}
use Rattle.kit_spread.proofs.spread_lists_col.Goals as goal

fields : {x y : SpreadLists} → x ≡ y → (x.verdict ≡ y.verdict) × (x.self ≡ y.self) × (x.parity ≡ y.parity)
fields e = (ap (λ (z : SpreadLists). z.verdict) e, ap (λ (z : SpreadLists). z.self) e, ap (λ (z : SpreadLists). z.parity) e)

pub returns-in_err-d : goal.returns-in_err-d
returns-in_err-d c =
    let a = c.args in
    fields (spread-refused a.own.now a.parity.now a.m a.t a.size a.col
    (list_refuses a.own.now a.parity.now a.m a.t a.size a.col _ _ c.in_err-d.ensures.0 c.from_residual.ensures))

pub fill_turned-requires : goal.fill_turned-requires
fill_turned-requires c =
    let a = c.args in
    let n = c.in_ok-d.ensures in
    (made-allowed refl n.2, omega arith, (lists-sized a.own.now a.parity.now a.m a.t a.size a.col _ n.0 n.1).0)

pub fill_turned-requires-2 : goal.fill_turned-requires-2
fill_turned-requires-2 c =
    let a = c.args in
    let n = c.in_ok-d.ensures in
    (made-allowed refl n.2, c.r.ensures.1, (lists-sized a.own.now a.parity.now a.m a.t a.size a.col _ n.0 n.1).1)

pub returns : goal.returns
returns c =
    let a = c.args in
    let d = c.in_ok-d.d in
    let n = c.in_ok-d.ensures in
    let v = list_passes a.own.now a.parity.now a.m a.t a.size a.col d n.0 n.1 in
    let e = fields (spread-filled a.own.now a.parity.now a.m a.t a.size a.col _ _ v c.fill_turned.ensures
    (c.fill_turned-2.ensures ∙ ap (λ (by : ℕ). list_bytes (order_of d) (turned_to (params_of d) by)) c.r.ensures.0)) in
    (check_passed refl ∙ e.0, e.1, e.2)
