use mathlib.Core.Path.{◌≡◌, ap, ap₂, ◌∙◌}
use mathlib.Core.Bool.{cond}
use mathlib.Core.List.{List}
use Prim.Native.Nat.{ℕ, ◌+◌, ◌-◌, ◌*◌}
use native.Mathlib.Omega.{arith}
use lib.Dec.{ltb}
use lib.ListN.{length, get_or, set}
use Rattle.staircase.specs.Load.{state_after, drawn, random_turns}
use Rattle.staircase.proofs.Fill.{filled_none, filled_more, filled_next}
use Rattle.generator.proofs.States.{after_none, after-add}
use Rattle.load.proofs.Turning.{turn_bit, turned-all}
use Rattle.load.proofs.turn_drawn.Goals as goal

pub loop-bit-init : goal.loop-bit-init
loop-bit-init c = (after_none _, filled_none _ _)

pub loop-bit-preserved : goal.loop-bit-preserved
loop-bit-preserved c =
    let a = c.args in
    let l = c.loop-bit in
    let k = l.bit-index in
    let d = c.draw-d in
    let f = turn_bit (random_turns a.seed a.limit) a.bits.now in
    let e : get_or l.bits k 0 ≡ get_or a.bits.now k 0 = ap (λ (t : List ℕ). get_or t k 0) l.invariant.1 ∙ filled_next f a.bits.now k in
    let z : 16 * k + 16 ≡ 16 * (k + 1) = omega arith in (
      d.ensures.1 ∙ ap (λ (s : ℕ). state_after s 16) l.invariant.0 ∙ after-add a.seed (16 * k) 16 ∙ ap (state_after a.seed) z,
      ap₂ (λ (t : List ℕ) (x : ℕ). set t k x) l.invariant.1
          (c.turned_bit.ensures ∙ ap₂ (λ (n b : ℕ). cond (ltb n a.limit) (1 - b) b) (c.from.ensures ∙ d.ensures.0 ∙ ap drawn l.invariant.0) e)
          ∙ filled_more f a.bits.now k (omega arith),
    )

pub returns : goal.returns
returns c =
    let a = c.args in
    let l = c.loop-bit in
    let e : l.bit-index ≡ length a.bits.now = omega arith in (
      l.invariant.1 ∙ turned-all (random_turns a.seed a.limit) a.bits.now l.bit-index e,
      l.invariant.0 ∙ ap (λ (n : ℕ). state_after a.seed (16 * n)) e,
    )
