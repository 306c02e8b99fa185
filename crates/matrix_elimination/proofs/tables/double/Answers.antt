use mathlib.Core.Path.{◌≡◌, ◌∙◌, subst}
use Prim.Native.Nat.{ℕ, ◌+◌, ◌^◌}
use native.Mathlib.Omega.{arith}
use Rattle.matrix_elimination.proofs.Doubling.{SumsOf, Doubled, doubled_next, doubled_all}
use Rattle.matrix_elimination.proofs.tables.double.Goals as goal

pub loop-x-preserved : goal.loop-x-preserved
loop-x-preserved c =
    let a = c.args in
    let h = c.requires in
    let l = c.loop-x in
    let r = c.sum_row in (
      omega arith,
      r.ensures.0 ∙ l.invariant.1,
      doubled_next a.m.now a.n a.w a.lo a.p h.5 l.m r.new.m a.s l.x h.3 h.4 (omega arith) l.invariant.2
          r.ensures.1,
    )

pub returns : goal.returns
returns c =
    let a = c.args in
    let h = c.requires in
    let l = c.loop-x in
    let e : l.x ≡ 2 ^ a.p = omega (arith, h.3) in
    let all = subst (λ (z : ℕ). Doubled a.m.now a.n a.w a.lo a.p l.m z) e l.invariant.2 in (
      l.invariant.1,
      subst (λ (z : ℕ). SumsOf a.n z l.m a.lo (a.p + 1)) h.1
          (doubled_all a.m.now a.n a.w a.lo a.p h.5 l.m all),
      all.kept,
    )
