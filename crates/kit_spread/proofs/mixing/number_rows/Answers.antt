use mathlib.Core.Path.{refl, ap, ◌∙◌}
use mathlib.Core.List.{List}
use Prim.Native.Nat.{ℕ}
use native.Mathlib.Omega.{arith}
use lib.ListN.{length, set}
use Rattle.staircase.proofs.Fill.{filled_none, filled_more, filled-all}
use Rattle.kit_spread.proofs.mixing.number_rows.Goals as goal

pub loop-j-init : goal.loop-j-init
loop-j-init c = filled_none _ _

pub loop-j-preserved : goal.loop-j-preserved
loop-j-preserved c =
    let a = c.args in
    let l = c.loop-j in
    ap (λ (t : List ℕ). set t l.j l.j) l.invariant ∙ filled_more (λ k. k) a.rows.now l.j (omega arith)

pub returns : goal.returns
returns c =
    let a = c.args in
    let l = c.loop-j in
    l.invariant ∙ filled-all (λ k. k) a.rows.now l.j (length a.rows.now) (omega arith) refl
