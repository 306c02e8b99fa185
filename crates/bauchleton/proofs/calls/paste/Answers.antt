-- A stretch that fits is copied; another is not.
use native.Mathlib.Omega.{arith}
use Rattle.bauchleton.proofs.Answers.{pasted_none, pasted_all}
use Rattle.bauchleton.proofs.calls.paste.Goals as goal

pub returns-then-stretch-out : goal.returns-then-stretch-out
returns-then-stretch-out c = rw c.copy.ensures (pasted_all _ _ c.if-stretch-out.true)

pub returns-else-stretch-out : goal.returns-else-stretch-out
returns-else-stretch-out c = pasted_none _ _ (omega (arith, c.if-stretch-out.false))
