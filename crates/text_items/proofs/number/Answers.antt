use native.Mathlib.Omega.{arith}
use Rattle.text_items.proofs.Numbers.{digit_at-small, none_read, zero-read, leading_first, leading_stop, leading_next, leading_full}
use Rattle.text_items.proofs.number.Goals as goal

pub returns-then-first-ge10 : goal.returns-then-first-ge10
returns-then-first-ge10 c = none_read _ _ _ c.digit_at-first.ensures c.if-first-ge10.true

pub overflow_add-result : goal.overflow_add-result
overflow_add-result c = omega (arith, (digit_at-small _ _ _ c.digit_at-first.ensures c.if-first-ge10.false).within)

pub returns-then-first-eq0 : goal.returns-then-first-eq0
returns-then-first-eq0 c = zero-read _ _ _ c.digit_at-first.ensures c.if-first-eq0.true

pub loop-n-init : goal.loop-n-init
loop-n-init c = leading_first _ _ _ c.digit_at-first.ensures c.if-first-ge10.false c.if-first-eq0.false

pub returns-then-d-ge10 : goal.returns-then-d-ge10
returns-then-d-ge10 c = leading_stop _ _ _ _ c.loop-n.invariant c.loop-n-test.true _ c.digit_at-d.ensures c.if-d-ge10.true

pub loop-n-preserved : goal.loop-n-preserved
loop-n-preserved c = leading_next _ _ _ _ c.loop-n.invariant c.loop-n-test.true _ c.digit_at-d.ensures c.if-d-ge10.false

pub returns : goal.returns
returns c = leading_full _ _ _ _ c.loop-n.invariant c.loop-n-test.false
