-- The lines that are read backwards, or the others.
use mathlib.Core.Path.{sym, ap, ◌∙◌}
use mathlib.Core.Bool.{Bool, not, cond}
use Rattle.design.specs.Sizes.{params_of}
use Rattle.layout.specs.Layouts.{turned_in, taken_in}
use Rattle.layout.proofs.taken.Goals as goal

pub returns-then-at : goal.returns-then-at
unfolding taken_in
returns-then-at c =
    let a = c.args.at in
    let t : Bool = turned_in a.pass.frames.shape (params_of a.pass.frames.d) a.k in
    c.turned-back.ensures ∙ ap (λ (b : Bool). cond b t (not t)) (sym c.if-at.true)

pub returns : goal.returns
unfolding taken_in
returns c =
    let a = c.args.at in
    let t : Bool = turned_in a.pass.frames.shape (params_of a.pass.frames.d) a.k in
    ap not c.turned-back.ensures ∙ ap (λ (b : Bool). cond b t (not t)) (sym c.if-at.false)
