use Rattle.std.proofs.Common.{◌≡◌, ℕ, ◌+◌, ◌*◌, ap, ◌∙◌, ap₂, arith}
use Rattle.staircase.specs.Load.{next_state, output, state_after, drawn_bits}
use Rattle.generator.proofs.States.{after_none, after_more, draw_none, draw_more, draw_small}
use Rattle.generator.proofs.draw.Goals as goal

pub loop-k-init : goal.loop-k-init
loop-k-init c = (omega arith, after_none _, draw_none _)

pub overflow_mul-number : goal.overflow_mul-number
overflow_mul-number c =
    let a = c.args in
    let l = c.loop-k in
    record { fits = omega (arith, l.invariant.2, draw_small a.seed l.k l.invariant.0) }

pub overflow_cast-number : goal.overflow_cast-number
overflow_cast-number c = record { fits = omega (arith, c.output_of-bit.ensures.1) }

pub overflow_add-number : goal.overflow_add-number
overflow_add-number c =
    let a = c.args in
    let l = c.loop-k in
    record { fits = omega (arith, c.output_of-bit.ensures.1, l.invariant.2, draw_small a.seed l.k l.invariant.0) }

pub loop-k-preserved : goal.loop-k-preserved
loop-k-preserved c =
    let a = c.args in
    let l = c.loop-k in
    let next = c.next_state-s.ensures ∙ ap next_state l.invariant.1 ∙ after_more a.seed l.k in (
      omega arith,
      next,
      ap₂ (λ (x y : ℕ). 2 * x + y) l.invariant.2 (c.output_of-bit.ensures.0 ∙ ap output next) ∙ draw_more a.seed l.k,
    )

pub returns : goal.returns
returns c =
    let a = c.args in
    let l = c.loop-k in
    let e : l.k ≡ 16 = omega arith in
    (l.invariant.2 ∙ ap (drawn_bits a.seed) e, l.invariant.1 ∙ ap (state_after a.seed) e, omega (arith, l.invariant.2, draw_small a.seed l.k l.invariant.0))
