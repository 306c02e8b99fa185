-- The share of nothing, and of a positive number.
use mathlib.Core.Path.{sym, ap, ◌∙◌}
use Prim.Native.Nat.{ℕ, ◌/◌}
use Rattle.staircase.proofs.Report.{share-none, share-some}
use Rattle.tally_share.proofs.lowest_terms.Goals as goal

pub returns-then-b-eq0 : goal.returns-then-b-eq0
returns-then-b-eq0 c = sym (share-none _ _ c.if-b-eq0.true)

pub returns : goal.returns
returns c =
    let a = c.args in
    ap (λ (g : ℕ). record { top = a.a / g; bottom = a.b / g }) c.greatest_common-g.ensures.0 ∙ sym (share-some a.a a.b c.if-b-eq0.false)
