-- Where no number is left, one idle round would be made; else the rounds are.
use mathlib.Core.Path.{◌≡◌, refl, sym, ap, ap₂, ◌∙◌}
use Prim.Native.Nat.{ℕ, ◌-◌, ◌*◌}
use native.Mathlib.Nat.{sub-zero}
use native.Mathlib.Omega.{arith}
use lib.ListN.{take}
use Rattle.staircase.proofs.Bounds.{small_product}
use Rattle.decoder_kept.specs.Numbers.{nonzero_numbers}
use Rattle.design.specs.Sizes.{params_of}
use Rattle.words_lines.proofs.Lent.{buffer_lent}
use Rattle.original_decoder.proofs.Kept.{numbers-end, rows-outside}
use Rattle.original_decoder.proofs.Rounds.{row_kept, filled-kept}
use Rattle.original_decoder.proofs.Counted.{decoded-idle}
use Rattle.original_decoder.proofs.correct_buffer.Goals as goal

pub overflow_mul-rows : goal.overflow_mul-rows
overflow_mul-rows c =
    omega (arith, small_product c.args.blocks c.size-size.result 4096 500 c.requires.0.few-blocks (omega (arith, c.size-size.ensures, c.requires.0.allowed.M-high)))

pub fill_kept-requires : goal.fill_kept-requires
fill_kept-requires c =
    let a = c.args in
    let F = c.requires.0 in
    (buffer_lent a.d a.blocks a.buffer.now F.allowed F.few-blocks F.long F.bits, row_kept a.d a.blocks c.requires.1)

pub overflow_mul-rows-2 : goal.overflow_mul-rows-2
overflow_mul-rows-2 c =
    let kept = c.fill_kept in
    omega (arith, numbers-end (filled-kept c.requires.0 kept.new.kept (kept.ensures.0 ∙ c.requires.1) kept.ensures.1) c.size-size.result c.size-size.ensures)

pub slice_bounds-count-end : goal.slice_bounds-count-end
slice_bounds-count-end c =
    let kept = c.fill_kept in
    omega (arith, numbers-end (filled-kept c.requires.0 kept.new.kept (kept.ensures.0 ∙ c.requires.1) kept.ensures.1) c.size-size.result c.size-size.ensures)

pub returns-then-wrong-eq0 : goal.returns-then-wrong-eq0
returns-then-wrong-eq0 c =
    let a = c.args in
    let size = c.size-size in
    let kept = c.fill_kept in
    let n = 4 * (a.blocks * size.result) in
    let e₀ : n - 0 ≡ 4 * (a.blocks * a.d.size) = sub-zero n ∙ ap (λ (z : ℕ). 4 * (a.blocks * z)) size.ensures in
    let W = kept.new.kept in
    let out = ap₂ (λ (j k : ℕ). nonzero_numbers (take j W) (a.blocks * k)) e₀ size.ensures ∙ rows-outside (filled-kept c.requires.0 kept.new.kept (kept.ensures.0 ∙ c.requires.1) kept.ensures.1) in
    decoded-idle (params_of a.d) a.blocks a.limit a.buffer.now _ refl (sym out ∙ sym c.count-wrong.ensures ∙ c.if-wrong-eq0.true)

pub correct_outside-requires : goal.correct_outside-requires
correct_outside-requires c =
    let kept = c.fill_kept in
    (filled-kept c.requires.0 kept.new.kept (kept.ensures.0 ∙ c.requires.1) kept.ensures.1, c.requires.2, c.requires.3)
