-- The test of the code is that of the rule.
use native.Mathlib.Omega.{arith}
use borrow.Author.Tests.{lt-ltb, le-ltb}
use Rattle.staircase.specs.Tally.{most_total}
use Rattle.answers.specs.Answers.{refusal_verdict, verdict_of}
use Rattle.tally.proofs.check_total.Goals as goal

pub returns-then-total-gt-MOST_TOTAL : goal.returns-then-total-gt-MOST_TOTAL
unfolding verdict_of refusal_verdict
returns-then-total-gt-MOST_TOTAL c = rw (lt-ltb most_total c.args.total (omega arith))

pub returns : goal.returns
unfolding verdict_of refusal_verdict
returns c = rw (le-ltb most_total c.args.total (omega arith))
