-- Where no entry is wrong the search would find none.
use mathlib.Core.Path.{sym, ◌∙◌}
use lib.ListN.{length}
use Rattle.matrix.proofs.Wrong.{wrong_at, some-none}
use Rattle.matrix.proofs.first_wrong.Goals as goal

pub returns-else-some_wrong : goal.returns-else-some_wrong
returns-else-some_wrong c =
    let a = c.args in
    some-none (length a.acc.now) (wrong_at a.acc.now a.e) (sym c.some_wrong.ensures ∙ c.if-some_wrong.false)
