use mathlib.Core.Path.{◌≡◌, ap}
use Prim.Native.Nat.{ℕ, suc, ◌+◌, ◌-◌, ◌*◌}
use native.Mathlib.Omega.{arith}
use native.Mathlib.Nat.{suc-mul}
use Rattle.words_sums.proofs.ListedBits.{listed_byte-none, listed_byte-more, listed_byte_half}
use Rattle.words_sums.proofs.listed.few_bits.Goals as goal

pub loop-i-init : goal.loop-i-init
loop-i-init c = listed_byte-none _ _ _ _ _ (omega arith)

pub overflow_mul-v : goal.overflow_mul-v
overflow_mul-v c =
    let a = c.args in
    let l = c.loop-i in
    omega (arith, l.invariant, listed_byte_half a.list.now a.bits.now c.requires.1 (a.p + l.i * a.w) a.w (a.count - l.i) (omega arith))

pub overflow_add-v : goal.overflow_add-v
overflow_add-v c =
    let a = c.args in
    let l = c.loop-i in
    omega (
      arith,
      l.invariant,
      listed_byte_half a.list.now a.bits.now c.requires.1 (a.p + l.i * a.w) a.w (a.count - l.i) (omega arith),
      c.bit_at.ensures.1,
    )

pub loop-i-preserved : goal.loop-i-preserved
loop-i-preserved c =
    let a = c.args in
    let l = c.loop-i in
    let i : ℕ = l.i - 1 in
    let up : suc i ≡ l.i = omega arith in
    let next : a.p + l.i * a.w ≡ a.p + i * a.w + a.w = omega (arith, ap (λ (z : ℕ). z * a.w) up, suc-mul i a.w) in
    listed_byte-more a.list.now a.bits.now (a.p + i * a.w) (a.p + l.i * a.w) a.w (a.count - l.i) (a.count - i) _ _ next
    (omega arith) l.invariant c.bit_at.ensures.0
