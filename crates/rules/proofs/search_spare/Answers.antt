use mathlib.Core.Path.{◌≡◌, sym}
use mathlib.Core.Bool.{false}
use native.Mathlib.Nat.{zero-add}
use native.Mathlib.Omega.{arith}
use borrow.Author.Count.{below_more}
use Rattle.staircase.proofs.Bounds.{small_product, stretch-end}
use Rattle.staircase.specs.System.{row_bytes}
use Rattle.staircase.specs.Rules.{spare_row}
use Rattle.staircase.proofs.Rules.{refuse_first-accepted, refuse_first-refused}
use Rattle.design.proofs.Sizes.{shl_one}
use Rattle.rules.proofs.Spare.{used_bits, spare-none, spare-some}
use Rattle.answers.specs.Answers.{refusal_verdict, verdict_of}
use Rattle.rules.proofs.search_spare.Goals as goal

pub overflow_add-width : goal.overflow_add-width
overflow_add-width c = omega arith

pub overflow_add-used : goal.overflow_add-used
overflow_add-used c = omega arith

pub overflow_add-used-2 : goal.overflow_add-used-2
overflow_add-used-2 c = omega arith

pub overflow_shl-limit : goal.overflow_shl-limit
overflow_shl-limit c = omega arith

pub loop-i-init : goal.loop-i-init
loop-i-init c = (omega arith, λ k h. absurd (omega arith))

pub overflow_mul-i : goal.overflow_mul-i
overflow_mul-i c =
    let n = c.args.n in
    let i = c.loop-i.i in
    omega (arith, small_product i (row_bytes n) 4096 512 (omega arith) (omega arith))

pub overflow_sub-width : goal.overflow_sub-width
overflow_sub-width c = omega arith

pub overflow_add-i : goal.overflow_add-i
overflow_add-i c =
    let n = c.args.n in
    let i = c.loop-i.i in
    omega (arith, small_product i (row_bytes n) 4096 512 (omega arith) (omega arith))

pub bounds-inverse-i : goal.bounds-inverse-i
bounds-inverse-i c =
    let n = c.args.n in
    let i = c.loop-i.i in
    omega (arith, stretch-end i n (row_bytes n) (omega arith))

pub returns-then-limit-from : goal.returns-then-limit-from
unfolding verdict_of refusal_verdict
returns-then-limit-from c =
    let a = c.args in
    let l = c.loop-i in
    let s = shl_one (used_bits a.n) (omega arith) in
    rw (zero-add l.i) at
    (refuse_first-refused 8 0 a.n (spare_row a.inverse.now a.n) l.i (omega arith) l.invariant.1
    (spare-some a.inverse.now a.n l.i (omega arith) (omega arith) (omega arith)))

pub overflow_step-i : goal.overflow_step-i
overflow_step-i c = omega arith

pub loop-i-smaller : goal.loop-i-smaller
loop-i-smaller c = omega arith

pub loop-i-preserved : goal.loop-i-preserved
loop-i-preserved c =
    let a = c.args in
    let l = c.loop-i in
    let s = shl_one (used_bits a.n) (omega arith) in
    let none = spare-none a.inverse.now a.n l.i (omega arith) (omega arith) in
    (omega arith, below_more (λ k. spare_row a.inverse.now a.n k ≡ false) l.i l.invariant.1 none)

pub returns : goal.returns
unfolding verdict_of refusal_verdict
returns c =
    let a = c.args in
    let l = c.loop-i in
    sym (refuse_first-accepted 8 0 a.n (spare_row a.inverse.now a.n) (λ k h. l.invariant.1 k (omega arith)))
