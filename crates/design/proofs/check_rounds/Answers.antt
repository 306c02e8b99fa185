-- The test of the code is that of the rule.
use native.Mathlib.Omega.{arith}
use borrow.Author.Tests.{lt-ltb, le-ltb}
use Rattle.staircase.specs.Design.{most-rounds}
use Rattle.staircase.specs.Rules.{rounds_rule}
use Rattle.answers.specs.Answers.{refusal_verdict, verdict_of}
use Rattle.design.proofs.check_rounds.Goals as goal

pub returns-then-rounds-gt-MOST_ROUNDS : goal.returns-then-rounds-gt-MOST_ROUNDS
unfolding rounds_rule verdict_of refusal_verdict
returns-then-rounds-gt-MOST_ROUNDS c = rw (lt-ltb most-rounds c.args.rounds (omega arith))

pub returns : goal.returns
unfolding rounds_rule verdict_of refusal_verdict
returns c = rw (le-ltb most-rounds c.args.rounds (omega arith))
