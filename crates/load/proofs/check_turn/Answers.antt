-- A refused design decides; otherwise rules 4, 6 and 10 do, for the sizes that the design was made from.
use mathlib.Core.Path.{refl, ◌∙◌}
use Rattle.staircase.specs.Design.{Params}
use Rattle.answers.proofs.Checks.{refused_on}
use Rattle.design.proofs.Answers.{made-design, made-allowed}
use Rattle.load.specs.Checks.{turn_rules}
use Rattle.load.proofs.LoadCalls.{turn-rules}
use Rattle.load.proofs.check_turn.Goals as goal

pub returns-in_err-d : goal.returns-in_err-d
returns-in_err-d c =
    let a = c.args in
    refused_on _ c.in_err-d.ensures.0 _ refl c.from_residual.ensures ∙ turn-rules a.m a.t a.size a.col a.blocks a.info.now a.red.now

pub check_frame-requires : goal.check_frame-requires
check_frame-requires c = made-allowed refl c.in_ok-d.ensures.2

pub returns : goal.returns
returns c =
    let a = c.args in
    let new = c.in_ok-d.ensures in
    made-design a.m a.t a.size a.col (λ (s : Params). turn_rules s a.blocks a.info.now a.red.now) _ new.0 _ new.1 refl c.check_frame.ensures
    ∙ turn-rules a.m a.t a.size a.col a.blocks a.info.now a.red.now
