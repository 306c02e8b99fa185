-- A case for each kind.
use mathlib.Core.Path.{sym, ap}
use Rattle.layout.specs.declared.Shape.{Shape}
use Rattle.layout.specs.Layouts.{rows_second}
use Rattle.layout.proofs.rows_second.Goals as goal

pub returns-in-FeedForward : goal.returns-in-FeedForward
unfolding rows_second
returns-in-FeedForward c = ap (λ (z : Shape). rows_second z c.args.line.k) (sym c.in-FeedForward.is)

pub returns-in-Original : goal.returns-in-Original
unfolding rows_second
returns-in-Original c = ap (λ (z : Shape). rows_second z c.args.line.k) (sym c.in-Original.is)
