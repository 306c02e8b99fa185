use mathlib.Core.Path.{◌≡◌, sym}
use mathlib.Core.Bool.{false}
use native.Mathlib.Omega.{arith}
use lib.Dec.{ltb}
use lib.ListN.{length, get_or}
use borrow.Author.Count.{below_more}
use borrow.Author.Tests.{lt-ltb, le-ltb}
use Rattle.staircase.specs.Rules.{bit_rule}
use Rattle.staircase.proofs.Rules.{refuse_first-accepted, refuse_first-refused}
use Rattle.answers.specs.Answers.{refusal_verdict, verdict_of}
use Rattle.rules.proofs.search_bits.Goals as goal

pub loop-i-init : goal.loop-i-init
loop-i-init c = (omega arith, omega arith, λ k h. absurd (omega arith))

pub bounds-bytes-i : goal.bounds-bytes-i
bounds-bytes-i c = omega arith

pub returns-then-b-gt1 : goal.returns-then-b-gt1
unfolding bit_rule verdict_of refusal_verdict
returns-then-b-gt1 c =
    let a = c.args in
    let l = c.loop-i in
    refuse_first-refused 10 a.base (length a.bytes.now) (λ k. ltb 1 (get_or a.bytes.now k 0)) l.i (omega arith) l.invariant.2
    (lt-ltb 1 (get_or a.bytes.now l.i 0) (omega arith))

pub overflow_step-i : goal.overflow_step-i
overflow_step-i c = omega arith

pub loop-i-smaller : goal.loop-i-smaller
loop-i-smaller c = omega arith

pub loop-i-preserved : goal.loop-i-preserved
loop-i-preserved c =
    let b = c.args.bytes.now in
    let l = c.loop-i in
    (omega arith, omega arith, below_more (λ k. ltb 1 (get_or b k 0) ≡ false) l.i l.invariant.2 (le-ltb 1 (get_or b l.i 0) (omega arith)))

pub returns : goal.returns
unfolding bit_rule verdict_of refusal_verdict
returns c =
    let a = c.args in
    let l = c.loop-i in
    sym (refuse_first-accepted 10 a.base (length a.bytes.now) (λ k. ltb 1 (get_or a.bytes.now k 0)) (λ k h. l.invariant.2 k (omega arith)))
