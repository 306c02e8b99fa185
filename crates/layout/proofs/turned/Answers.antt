-- The words of even lines are read forwards.
use mathlib.Core.Path.{sym, ◌∙◌}
use borrow.Author.Tests.{eq-eqb, ne_eqb}
use Rattle.design.specs.Sizes.{params_of}
use Rattle.layout.proofs.Layouts.{turned-even, turned_odd}
use Rattle.layout.proofs.turned.Goals as goal

pub returns-then-k-eq0 : goal.returns-then-k-eq0
returns-then-k-eq0 c = let a = c.args in sym (turned-even a.frames.shape (params_of a.frames.d) a.k (eq-eqb _ 0 c.if-k-eq0.true))

pub returns : goal.returns
returns c =
    let a = c.args in
    c.turns.ensures ∙ sym (turned_odd a.frames.shape (params_of a.frames.d) a.k (ne_eqb _ 0 c.if-k-eq0.false))
