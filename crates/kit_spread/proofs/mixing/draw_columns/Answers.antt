use mathlib.Core.Path.{◌≡◌, sym, ap₂, ◌∙◌}
use Prim.Native.Nat.{ℕ, ◌-◌, ◌*◌}
use native.Mathlib.Nat.{mul-zero}
use native.Mathlib.Omega.{arith}
use Rattle.staircase.specs.Load.{state_after}
use Rattle.staircase.proofs.Bounds.{stretch-end}
use Rattle.staircase.proofs.Fill.{stretches_none, stretches_more, stretches_all}
use Rattle.design.specs.Sizes.{params_of}
use Rattle.kit_spread.proofs.MixedEntries.{draw_none-left, part_length, rows_by, rows-by, rows-wide, rows_next, state_next}
use Rattle.kit_spread.proofs.mixing.draw_columns.Goals as goal

pub loop-c-init : goal.loop-c-init
loop-c-init c =
    let a = c.args in
    let r = c.r-r.result in
    (draw_none-left a.seed ((r - 1) * 0) (sym (mul-zero (r - 1))), stretches_none (rows_by r a.seed) a.rows.now r)

pub loop-c-preserved : goal.loop-c-preserved
loop-c-preserved c =
    let a = c.args in
    let l = c.loop-c in
    let r = c.r-r.result in
    let drawn = c.draw_rows-s.ensures in
    let whole = c.requires.1 ∙ sym (ap₂ (λ (x y : ℕ). x * y) c.size-c-end.ensures c.r-r.ensures.0) in
    let end = stretch-end l.c c.size-c-end.result r (omega arith) in
    let long = part_length l.rows (l.c * r) r (omega (arith, end, whole, l.auto.rows)) in (
      drawn.1 ∙ state_next r a.seed l.c _ l.s long l.invariant.0,
      stretches_more (rows_by r a.seed) a.rows.now r (rows-wide r a.seed) l.rows _ l.c l.invariant.1
          (drawn.0 ∙ rows_next r a.seed l.c _ l.s long l.invariant.0),
    )

pub returns : goal.returns
returns c =
    let a = c.args in
    let l = c.loop-c in
    let n = c.size-c-end in
    let r = c.r-r in
    let whole = c.requires.1 ∙ sym (ap₂ (λ (x y : ℕ). x * y) n.ensures r.ensures.0) in
    let e : l.c ≡ n.result = omega arith in (
      l.invariant.1 ∙ stretches_all (rows_by r.result a.seed) a.rows.now r.result l.c n.result e whole
          ∙ rows-by (params_of a.d) a.seed n.result r.result n.ensures r.ensures.0,
      l.invariant.0 ∙ ap₂ (λ (x y : ℕ). state_after a.seed (16 * ((x - 1) * y))) r.ensures.0 (e ∙ n.ensures),
    )
