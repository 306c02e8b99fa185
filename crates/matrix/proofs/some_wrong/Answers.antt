-- The steps of the code are the parts of the row: the columns before e, column e, and those behind it.
use mathlib.Core.Path.{◌≡◌, sym, ◌∙◌}
use mathlib.Core.Bool.{true, false}
use Prim.Native.Nat.{◌+◌}
use native.Mathlib.Omega.{arith}
use borrow.Author.Tests.{eq-eqb}
use lib.ListN.{length}
use Rattle.matrix.proofs.Wrong.{wrong_past, odd_front, odd_part, wrong_even, wrong_front, wrong_rest}
use Rattle.matrix.proofs.some_wrong.Goals as goal
use Rattle.matrix.proofs.some_wrong.Goals.{then-ones_of-eq0, else-ones_of-eq0}

apart : true ≡ false → ⊥
apart e = cc

pub returns-then-n-e : goal.returns-then-n-e
returns-then-n-e c =
    let a = c.args in
    c.some_odd.ensures ∙ wrong_past a.acc.now (length a.acc.now) a.e (omega arith)

pub returns-then-some_odd : goal.returns-then-some_odd
returns-then-some_odd c =
    let a = c.args in
    elim c.if-ones_of-eq0.branch [
      | then-ones_of-eq0 w ↦ c.if-some_odd.true ∙ wrong_even a.acc.now (length a.acc.now) a.e _ (omega arith) c.ones_of.ensures w.if-ones_of-eq0.true
      | else-ones_of-eq0 w ↦
          c.if-some_odd.true
          ∙ wrong_front a.acc.now (length a.acc.now) a.e (omega arith)
          (sym (odd_front a.acc.now a.e (omega arith)) ∙ sym w.some_odd-else-ones_of-eq0.ensures ∙ sym w.value-is ∙ c.if-some_odd.true)
    ]

pub returns-else-some_odd : goal.returns-else-some_odd
returns-else-some_odd c =
    let a = c.args in
    elim c.if-ones_of-eq0.branch [
      | then-ones_of-eq0 w ↦ absurd (apart (sym (eq-eqb _ 0 w.if-ones_of-eq0.true) ∙ sym w.value-is ∙ c.if-some_odd.false))
      | else-ones_of-eq0 w ↦
          c.some_odd-else-some_odd.ensures ∙ odd_part a.acc.now (a.e + 1) (length a.acc.now) (omega arith)
          ∙ wrong_rest a.acc.now (length a.acc.now) a.e c.ones_of.result (omega arith) c.ones_of.ensures w.if-ones_of-eq0.false
          (sym (odd_front a.acc.now a.e (omega arith)) ∙ sym w.some_odd-else-ones_of-eq0.ensures ∙ sym w.value-is ∙ c.if-some_odd.false)
    ]
