-- What is left of a place without its row is its column's first place.
use mathlib.Core.Path.{sym, subst}
use Prim.Native.Nat.{ℕ, ◌<◌}
use Rattle.staircase.proofs.BchCode.{proper_of}
use Rattle.staircase.proofs.Spread.{turned_lt}
use Rattle.design.specs.Sizes.{params_of, order_of}
use Rattle.kit_spread.proofs.Turning.{turned_start}
use Rattle.kit_spread.proofs.turned_to.Goals as goal

pub returns : goal.returns
returns c =
    let a = c.args in
    let s = params_of a.d in
    let e = turned_start s a.by a.p c.size-size.result c.size-size.ensures in
    (e, subst (λ (z : ℕ). z < order_of a.d) (sym e) (turned_lt s (proper_of c.requires.0) a.by a.p c.requires.2))
