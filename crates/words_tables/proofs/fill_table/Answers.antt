use mathlib.Core.Path.{refl, sym, ap, ◌∙◌}
use Prim.Native.Nat.{ℕ, ◌+◌, ◌*◌, ◌^◌}
use native.Mathlib.Numerals.{add-one}
use native.Mathlib.Omega.{arith}
use lib.ListN.{get_or, length-set}
use Rattle.bch.specs.Polynomial.{◌⊕◌}
use Rattle.words_tables.proofs.Tables.{sums_none, sums_doubled}
use Rattle.words_tables.proofs.fill_table.Goals as goal

pub loop-i-init : goal.loop-i-init
loop-i-init c =
    let a = c.args in
    (omega arith, refl, simp length-set (omega arith), sums_none (λ k. get_or a.part.now (a.from + k) 0) a.table.now (omega arith))

pub loop-i-preserved : goal.loop-i-preserved
loop-i-preserved c =
    let a = c.args in
    let l = c.loop-i in
    let r = c.double in
    let x = c.entry_at in (
      omega arith,
      ap (λ (z : ℕ). z * 2) l.invariant.1 ∙ sym (ap (λ (z : ℕ). 2 ^ z) (add-one l.i) ∙ omega arith),
      r.ensures.0 ∙ l.invariant.2,
      sums_doubled (λ k. get_or a.part.now (a.from + k) 0) l.i l.table r.new.table l.w l.invariant.1 l.invariant.3 r.ensures.1
          (λ v h. r.ensures.2 v h ∙ ap (λ (z : ℕ). get_or l.table v 0 ⊕ z) x.ensures),
    )
