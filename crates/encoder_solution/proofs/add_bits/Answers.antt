use mathlib.Core.Path.{◌≡◌, ap, ◌∙◌}
use mathlib.Core.List.{List}
use Prim.Native.Nat.{ℕ}
use native.Mathlib.Omega.{arith}
use lib.ListN.{get_or, set, length-set}
use Rattle.staircase.specs.Lists.{bit_sum}
use Rattle.staircase.proofs.Fill.{filled_none, filled_more, filled_next, filled-all}
use Rattle.encoder_solution.proofs.add_bits.Goals as goal

pub loop-q-init : goal.loop-q-init
loop-q-init c = (omega arith, omega arith, omega arith, filled_none _ _)

pub loop-q-preserved : goal.loop-q-preserved
loop-q-preserved c =
    let a = c.args in
    let l = c.loop-q in
    let f : ℕ → ℕ = λ k. bit_sum (get_or a.out.now k 0) (get_or a.bits.now k 0) in
    let old : get_or l.out l.q 0 ≡ get_or a.out.now l.q 0 = ap (λ (t : List ℕ). get_or t l.q 0) l.invariant.3 ∙ filled_next f a.out.now l.q in (
      omega arith,
      omega arith,
      simp length-set (omega arith),
      ap (λ (x : ℕ). set l.out l.q (bit_sum x (get_or a.bits.now l.q 0))) old
          ∙ ap (λ (t : List ℕ). set t l.q (f l.q)) l.invariant.3 ∙ filled_more f a.out.now l.q (omega arith),
    )

pub overflow_add-sum : goal.overflow_add-sum
overflow_add-sum c =
    let a = c.args in
    let l = c.loop-q in
    let f : ℕ → ℕ = λ k. bit_sum (get_or a.out.now k 0) (get_or a.bits.now k 0) in
    let old : get_or l.out l.q 0 ≡ get_or a.out.now l.q 0 = ap (λ (t : List ℕ). get_or t l.q 0) l.invariant.3 ∙ filled_next f a.out.now l.q in
    omega (arith, old, c.requires.1 l.q, c.requires.2 l.q)

pub returns : goal.returns
returns c =
    let l = c.loop-q in
    l.invariant.3 ∙ filled-all _ _ _ _ (omega arith) (omega arith)
