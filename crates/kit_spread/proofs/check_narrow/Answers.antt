-- The test of the code is that of the rule.
use native.Mathlib.Omega.{arith}
use Prim.Native.Nat.{◌*◌}
use borrow.Author.Tests.{lt-ltb, le-ltb}
use Rattle.staircase.specs.Spread.{narrow_rule}
use Rattle.answers.specs.Answers.{refusal_verdict, verdict_of}
use Rattle.kit_spread.proofs.check_narrow.Goals as goal

pub returns-then-size-r : goal.returns-then-size-r
unfolding narrow_rule verdict_of refusal_verdict
returns-then-size-r c =
    let d = c.args.d in
    rw (c.size-size.ensures, lt-ltb d.size (2 * (d.m * d.t)) (omega (arith, c.size-size.ensures, c.r.ensures.0)))

pub returns : goal.returns
unfolding narrow_rule verdict_of refusal_verdict
returns c =
    let d = c.args.d in
    rw (le-ltb d.size (2 * (d.m * d.t)) (omega (arith, c.size-size.ensures, c.r.ensures.0)))
