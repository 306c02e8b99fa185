-- The first wrong entry of A W is the place; none is a kit that passes.
use native.Mathlib.Omega.{arith}
use mathlib.Core.Path.{ap}
use Prim.Native.Nat.{ℕ, ◌*◌}
use Rattle.design.specs.Sizes.{params_of, lists_of}
use Rattle.answers.specs.Answers.{refusal_verdict, verdict_of}
use Rattle.kit_inverse.proofs.Rule9.{inverse-refused, inverse-passed}
use Rattle.kit_inverse.proofs.judge.Goals as goal

pub returns-then-x-all : goal.returns-then-x-all
unfolding verdict_of refusal_verdict
returns-then-x-all c =
    let a = c.args in
    let o = c.order-n in
    let x = c.first_wrong-x in
    inverse-refused (params_of a.d) (lists_of a.d a.own.now a.parity.now) a.inverse.now (o.result * o.result)
    (ap (λ (k : ℕ). k * k) o.ensures.0) x.result x.ensures (omega arith)

pub returns : goal.returns
unfolding verdict_of
returns c =
    let a = c.args in
    let o = c.order-n in
    let x = c.first_wrong-x in
    inverse-passed (params_of a.d) (lists_of a.d a.own.now a.parity.now) a.inverse.now (o.result * o.result)
    (ap (λ (k : ℕ). k * k) o.ensures.0) x.result x.ensures (omega arith)
