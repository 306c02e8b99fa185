-- The invariant: the two numbers have the common divisors of a and b.
use Rattle.staircase.proofs.Report.{Same}
use Rattle.tally_share.proofs.greatest_common.Given as goal

abbrev pub invariant-loop-y : goal.invariant-loop-y
invariant-loop-y l = Same l.a l.b l.x l.y

abbrev pub decreases-loop-y : goal.decreases-loop-y
decreases-loop-y l = l.y
