use mathlib.Core.Path.{◌≡◌, refl, sym, ◌∙◌, subst}
use Prim.Native.Nat.{ℕ, ◌+◌, ◌-◌, ◌*◌}
use native.Mathlib.Omega.{arith}
use Rattle.matrix_elimination.specs.Steps.{TableOf}
use Rattle.matrix_elimination.proofs.Doubling.{SumsOf, table_none, table_rows, table-length}
use Rattle.matrix_elimination.proofs.PartBack.{back}
use Rattle.matrix_elimination.proofs.tables.fill_table.Goals as goal

pub loop-p-init : goal.loop-p-init
loop-p-init c =
    let a = c.args in
    let h = c.requires in
    let r = c.fill in
    let k : ℕ = a.n * a.w + a.w - a.n * a.w in
    let ek : k ≡ a.w = omega arith in (
      omega arith,
      refl,
      table-length a.m.now r.new.self a.n a.w k h.0 ek (r.ensures.after (λ y h. h)) ∙ h.0,
      subst (λ (z : ℕ). SumsOf a.n z (back a.m.now r.new.self (a.n * a.w) k) a.lo 0) h.1
          (table_none a.m.now r.new.self a.n a.w k h.0 ek (r.ensures.after (λ y h. h)) a.lo),
      λ i j hi hj. refl,
    )

pub returns : goal.returns
returns c =
    let a = c.args in
    let h = c.requires in
    let r = c.fill in
    let l = c.loop-p in
    let k : ℕ = a.n * a.w + a.w - a.n * a.w in
    let ek : k ≡ a.w = omega arith in
    let e : l.p ≡ a.h = omega arith in (
      l.invariant.2 ∙ sym h.0,
      subst (λ (z : ℕ). TableOf a.n l.m a.lo z) e l.invariant.3,
      λ i j hi hj. l.invariant.4 i j hi hj ∙ table_rows a.m.now r.new.self a.n a.w k h.0 ek (r.ensures.after (λ y h. h)) i j hi hj,
    )
