-- A refused design decides; otherwise rules 4 and 6 do, for the sizes that the design was made from.
use mathlib.Core.Path.{refl, ◌∙◌}
use Rattle.staircase.specs.Design.{Params}
use Rattle.answers.proofs.Checks.{refused_on}
use Rattle.design.proofs.Answers.{made-design}
use Rattle.load.specs.Checks.{fill_rules}
use Rattle.load.proofs.LoadCalls.{fill-rules}
use Rattle.load.proofs.check_fill.Goals as goal

pub returns-in_err-d : goal.returns-in_err-d
returns-in_err-d c =
    let a = c.args in
    refused_on _ c.in_err-d.ensures.0 _ refl c.from_residual.ensures ∙ fill-rules a.m a.t a.size a.col a.blocks a.info.now

pub returns : goal.returns
returns c =
    let a = c.args in
    let new = c.in_ok-d.ensures in
    made-design a.m a.t a.size a.col (λ (s : Params). fill_rules s a.blocks a.info.now) _ new.0 _ new.1 refl c.check_info.ensures
    ∙ fill-rules a.m a.t a.size a.col a.blocks a.info.now
