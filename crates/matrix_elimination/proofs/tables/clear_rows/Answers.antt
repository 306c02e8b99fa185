-- The rows before lo are cleared, and then those from lo + h on.
use mathlib.Core.Path.{◌≡◌, sym, ◌∙◌, subst}
use Prim.Native.Nat.{ℕ, ◌*◌, ◌/◌, ◌<◌}
use native.Mathlib.Omega.{arith}
use Rattle.matrix_elimination.proofs.ClearedEntries.{cleared-entry}
use Rattle.matrix_elimination.proofs.Doubling.{SumsOf}
use Rattle.matrix_elimination.proofs.tables.clear_rows.Goals as goal

pub returns : goal.returns
returns c =
    let a = c.args in
    let p = c.requires in
    let r = c.clear_part in
    let s = c.clear_part-2 in
    let b : ℕ = a.lo / 8 in
    let hb : b < a.w = omega arith in
    let start : a.lo ≡ 8 * b = omega arith in
    let table = subst (λ (z : ℕ). SumsOf a.n z a.m.now a.lo a.h) (sym p.1) p.7 in (
      s.ensures.long ∙ r.ensures.long,
      cleared-entry a.n a.w b a.lo a.h a.m.now r.new.m s.new.m hb p.4 p.5 r.ensures s.ensures start table,
    )
