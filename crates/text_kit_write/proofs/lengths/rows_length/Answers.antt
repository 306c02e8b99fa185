use native.Mathlib.Omega.{arith}
use mathlib.Core.Path.{◌≡◌}
use mathlib.Core.List.{[]}
use Prim.Native.Nat.{◌+◌, ◌≤◌}
use lib.ListN.{length}
use Rattle.text_lines.proofs.Decimal.{dec-short}
use Rattle.text.specs.KitSpelled.{row_text, rows_text}
use Rattle.text.proofs.KitSpelled.{row-length}
use Rattle.text_kit_write.proofs.Adding.{summed_none, summed_more, summed_all}
use Rattle.text_kit_write.proofs.lengths.rows_length.Goals as goal

pub loop-i-init : goal.loop-i-init
loop-i-init c = (omega arith, summed_none (row_text c.args.n []) 4118)

pub overflow_add-sum : goal.overflow_add-sum
overflow_add-sum c = omega (arith, dec-short c.loop-i.i, c.digits.ensures)

pub overflow_add-sum-in-loop-i : goal.overflow_add-sum-in-loop-i
overflow_add-sum-in-loop-i c = omega (arith, dec-short c.loop-i.i, c.digits.ensures)

pub overflow_add-sum-in-loop-i-2 : goal.overflow_add-sum-in-loop-i-2
overflow_add-sum-in-loop-i-2 c = omega (arith, dec-short c.loop-i.i, c.digits.ensures, c.loop-i.invariant.1.small)

pub loop-i-preserved : goal.loop-i-preserved
loop-i-preserved c =
    let n = c.args.n in
    let l = c.loop-i in
    let e : c.digits.result + n + 2 ≡ length (row_text n [] l.i) = omega (arith, c.digits.ensures, row-length n [] l.i) in
    let h : c.digits.result + n + 2 ≤ 4118 = omega (arith, c.digits.ensures, dec-short l.i) in
    (omega arith, summed_more (row_text n []) 4118 l.sum l.i (c.digits.result + n + 2) l.invariant.1 e h)

pub returns : goal.returns
unfolding rows_text
returns c =
    let n = c.args.n in
    let l = c.loop-i in
    let r = summed_all (row_text n []) 4118 l.sum l.i n l.invariant.1 l.invariant.0 c.loop-i-test.false in
    (r.0, omega (arith, r.1))
