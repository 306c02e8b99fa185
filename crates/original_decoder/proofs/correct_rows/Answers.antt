-- The marks are cleared behind the numbers, the rounds keep both right, and both are counted.
use mathlib.Core.Path.{◌≡◌, refl, sym, ap, ap₂, ◌∙◌}
use Prim.Native.Nat.{ℕ, ◌-◌, ◌*◌, ◌≤◌}
use native.Mathlib.Omega.{arith}
use lib.ListN.{length, take, drop, length-replicate}
use Rattle.decoder_kept.specs.Numbers.{nonzero_numbers}
use Rattle.design.specs.Sizes.{params_of}
use Rattle.original_decoder.proofs.Kept.{rows-outside, marks-keep, marks-count, numbers-end, part-short}
use Rattle.original_decoder.proofs.Counted.{decoded-made}
use Rattle.original_decoder.proofs.correct_rows.Goals as goal

pub overflow_mul-rows : goal.overflow_mul-rows
overflow_mul-rows c = omega (arith, numbers-end c.requires.1 c.size-size.result c.size-size.ensures)

pub overflow_mul-n : goal.overflow_mul-n
overflow_mul-n c = omega (arith, numbers-end c.requires.1 c.size-size.result c.size-size.ensures)

pub slice_bounds-clear-count : goal.slice_bounds-clear-count
slice_bounds-clear-count c = omega (arith, numbers-end c.requires.1 c.size-size.result c.size-size.ensures)

pub slice_bounds-clear-start : goal.slice_bounds-clear-start
slice_bounds-clear-start c = omega (arith, numbers-end c.requires.1 c.size-size.result c.size-size.ensures)

pub run_rounds-made-requires : goal.run_rounds-made-requires
run_rounds-made-requires c =
    let a = c.args in
    let p = c.requires in
    let size = c.size-size in
    let clear = c.clear in
    let n = 4 * (a.blocks * size.result) in
    let en : n ≡ 4 * (a.blocks * a.d.size) = ap (λ (z : ℕ). 4 * (a.blocks * z)) size.ensures in
    (p.0, marks-keep a.d a.blocks a.buffer.now a.kept.now clear.new.marks p.1 n (length a.kept.now) en refl (ap length clear.ensures ∙ length-replicate _ 0), p.2, p.3)

pub slice_bounds-count-count : goal.slice_bounds-count-count
slice_bounds-count-count c = omega (arith, numbers-end c.requires.1 c.size-size.result c.size-size.ensures)

pub slice_bounds-count-start : goal.slice_bounds-count-start
slice_bounds-count-start c = omega (arith, numbers-end c.requires.1 c.size-size.result c.size-size.ensures)

pub count-turned-requires : goal.count-turned-requires
count-turned-requires c =
    let a = c.args in
    let size = c.size-size in
    let K = c.run_rounds-made.new.kept in
    let n = 4 * (a.blocks * size.result) in
    let short : length (take (length a.kept.now - n) (drop n K)) ≤ length K = part-short K n (length a.kept.now - n) in
    omega (arith, short, (numbers-end c.run_rounds-made.ensures.2 size.result size.ensures).2)

pub slice_bounds-count-end-2 : goal.slice_bounds-count-end-2
slice_bounds-count-end-2 c = omega (arith, numbers-end c.run_rounds-made.ensures.2 c.size-size.result c.size-size.ensures)

pub returns : goal.returns
returns c =
    let a = c.args in
    let p = c.requires in
    let size = c.size-size in
    let clear = c.clear in
    let run = c.run_rounds-made in
    let K = a.kept.now in
    let n = 4 * (a.blocks * size.result) in
    let en : n ≡ 4 * (a.blocks * a.d.size) = ap (λ (z : ℕ). 4 * (a.blocks * z)) size.ensures in
    let e₀ : n - 0 ≡ 4 * (a.blocks * a.d.size) = omega (arith, en) in
    let after = run.new.kept in
    let B' = run.ensures.2 in
    let turned = c.count-turned.ensures.0
    ∙ marks-count a.d a.blocks a.buffer.now K clear.new.marks p.1 n (length K) en refl (ap length clear.ensures ∙ length-replicate _ 0) clear.ensures _ after B' run.ensures.3 in
    let outside = c.count-outside.ensures ∙ ap₂ (λ (j k : ℕ). nonzero_numbers (take j after) (a.blocks * k)) e₀ size.ensures ∙ rows-outside B' in (
      decoded-made (params_of a.d) a.blocks a.limit a.buffer.now run.result.flips _ _ p.2 run.ensures.0 turned outside run.ensures.1,
      B'.frame.long ∙ sym p.1.frame.long,
      B'.long ∙ sym p.1.long,
    )
