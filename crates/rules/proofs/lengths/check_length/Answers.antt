-- The test of the code is that of the rule.
use native.Mathlib.Omega.{arith}
use borrow.Author.Tests.{eq-eqb, ne_eqb}
use Rattle.answers.specs.Answers.{refusal_verdict, verdict_of}
use Rattle.rules.proofs.lengths.check_length.Goals as goal

pub returns-then-have-due : goal.returns-then-have-due
unfolding verdict_of refusal_verdict
returns-then-have-due c = rw (ne_eqb c.args.have c.args.due (λ e. omega arith))

pub returns : goal.returns
unfolding verdict_of refusal_verdict
returns c = rw (eq-eqb c.args.have c.args.due (omega arith))
