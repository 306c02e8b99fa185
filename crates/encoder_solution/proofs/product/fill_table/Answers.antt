use mathlib.Core.Path.{◌≡◌, refl, sym, ap, ◌∙◌}
use Prim.Native.Nat.{ℕ, ◌*◌, ◌^◌, ◌≤◌}
use native.Mathlib.Numerals.{add-one}
use native.Mathlib.Omega.{arith}
use lib.Pow.{pow_mono}
use lib.ListN.{get_or, length-set}
use Rattle.words_tables.specs.Tables.{sum_at}
use Rattle.words_tables.proofs.Tables.{sums_none, sums_doubled}
use Rattle.encoder_solution.proofs.product.fill_table.Goals as goal

pub loop-word-init : goal.loop-word-init
loop-word-init c =
    let a = c.args in
    (refl, simp length-set (omega arith), sums_none (λ k. get_or a.words.now k 0) a.table.now (omega arith))

pub double-requires : goal.double-requires
double-requires c =
    let l = c.loop-word in
    let few : 2 ^ l.word-index ≤ 2 ^ 7 = pow_mono {j = 7} (omega arith) in
    omega (arith, few, l.invariant.0)

pub overflow_mul-w : goal.overflow_mul-w
overflow_mul-w c =
    let l = c.loop-word in
    let few : 2 ^ l.word-index ≤ 2 ^ 7 = pow_mono {j = 7} (omega arith) in
    omega (arith, few, l.invariant.0)

pub loop-word-preserved : goal.loop-word-preserved
loop-word-preserved c =
    let a = c.args in
    let l = c.loop-word in
    let r = c.double in (
      ap (λ (z : ℕ). z * 2) l.invariant.0 ∙ sym (ap (λ (z : ℕ). 2 ^ z) (add-one l.word-index) ∙ omega arith),
      r.ensures.0 ∙ l.invariant.1,
      sums_doubled (λ k. get_or a.words.now k 0) l.word-index l.table r.new.table l.w l.invariant.0 l.invariant.2 r.ensures.1 r.ensures.2,
    )

pub returns : goal.returns
returns c =
    let a = c.args in
    let l = c.loop-word in
    let e : l.word-index ≡ 8 = omega arith in
    let all : l.w ≡ 256 = l.invariant.0 ∙ ap (λ (z : ℕ). 2 ^ z) e in
    (omega arith, λ v h. l.invariant.2 v (omega arith) ∙ ap (λ (z : ℕ). sum_at (λ k. get_or a.words.now k 0) z v) e)
