use mathlib.Core.Path.{◌≡◌, refl, ap, ap₂, ◌∙◌}
use mathlib.Core.List.{List}
use Prim.Native.Nat.{ℕ}
use native.Mathlib.Omega.{arith}
use lib.ListN.{length, set}
use Rattle.staircase.specs.Load.{next_state, output, state_after, load_bit}
use Rattle.staircase.proofs.Fill.{filled_none, filled_more, filled-all}
use Rattle.generator.proofs.States.{after_none, after_more}
use Rattle.load.proofs.fill_bits.Goals as goal

pub loop-bit-init : goal.loop-bit-init
loop-bit-init c = (after_none _, filled_none _ _)

pub loop-bit-preserved : goal.loop-bit-preserved
loop-bit-preserved c =
    let a = c.args in
    let l = c.loop-bit in
    let k = l.bit-index in
    let next = c.next_state-s.ensures ∙ ap next_state l.invariant.0 ∙ after_more a.seed k in (
      next,
      ap₂ (λ (t : List ℕ) (x : ℕ). set t k x) l.invariant.1 (c.output_of.ensures.0 ∙ ap output next)
          ∙ filled_more (load_bit a.seed) a.bits.now k (omega arith),
    )

pub returns : goal.returns
returns c =
    let a = c.args in
    let l = c.loop-bit in
    let e : l.bit-index ≡ length a.bits.now = omega arith in
    (l.invariant.1 ∙ filled-all (load_bit a.seed) a.bits.now l.bit-index (length a.bits.now) e refl, l.invariant.0 ∙ ap (state_after a.seed) e)
