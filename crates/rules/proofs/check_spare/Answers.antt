-- An empty inverse has no entry but 0.
use Rattle.staircase.proofs.Rules.{refuse_first-accepted}
use Rattle.answers.specs.Answers.{verdict_of}
use Rattle.rules.proofs.Spare.{empty-spare}
use native.Mathlib.Omega.{arith}
use mathlib.Core.Path.{sym}
use Rattle.rules.proofs.check_spare.Goals as goal

pub returns-then-inverse-eq0 : goal.returns-then-inverse-eq0
unfolding verdict_of
returns-then-inverse-eq0 c =
    let a = c.args in
    sym (refuse_first-accepted 8 0 a.n _ (λ k l. empty-spare a.inverse.now a.n k (omega arith)))

pub search_spare-requires : goal.search_spare-requires
search_spare-requires c = (c.requires.0 (omega arith), c.requires.1, c.requires.2)
