use mathlib.Core.Path.{◌≡◌, sym, ap, ap₂, ◌∙◌}
use mathlib.Core.List.{List}
use Prim.Native.Nat.{ℕ, ◌+◌, ◌-◌, ◌*◌, ◌%◌}
use native.Mathlib.Omega.{arith}
use Rattle.staircase.specs.Load.{state_after}
use Rattle.staircase.specs.Mixed.{swapped, shuffled}
use Rattle.kit_spread.proofs.MixedEntries.{shuffle_none, shuffle_draw, draw_none-left, draw_steps}
use Rattle.kit_spread.proofs.mixing.shuffle_rows.Goals as goal

pub loop-i-preserved : goal.loop-i-preserved
unfolding swapped
loop-i-preserved c =
    let l = c.loop-i in
    let d = c.draw-d in
    let i : ℕ = l.i - 1 in
    let swap : c.swap.new.self ≡ swapped l.rows i (d.result.number % (i + 1)) = c.swap.ensures.by_index.3 0 in (
      ap (λ (t : List ℕ). shuffled d.result.state (i - 1) t) swap
          ∙ ap₂ (λ (x n : ℕ). shuffled x (i - 1) (swapped l.rows i (n % (i + 1)))) d.ensures.1 d.ensures.0
          ∙ sym (shuffle_draw l.s i l.rows (omega arith)) ∙ l.invariant.0,
      ap (λ (x : ℕ). state_after x (16 * (i - 1))) d.ensures.1 ∙ sym (draw_steps l.s i (omega arith)) ∙ l.invariant.1,
    )

pub returns : goal.returns
returns c =
    let l = c.loop-i in
    let e : 0 ≡ l.i - 1 = omega arith in
    (shuffle_none l.s (l.i - 1) l.rows e ∙ l.invariant.0, draw_none-left l.s (l.i - 1) e ∙ l.invariant.1)
