-- The call ends at a refusal, or with the bits of both buffers turned, the redundancy's from the state after the information's draws.
use mathlib.Core.Path.{ap, ◌∙◌}
use Rattle.staircase.specs.Load.{WithErrors}
use Rattle.answers.specs.Answers.{verdict_of}
use Rattle.answers.proofs.Checks.{handed_on, check_refused}
use Rattle.generator.specs.Answers.{load_state}
use Rattle.load.proofs.LoadCalls.{errors-refused, errors-done}
use Rattle.load.proofs.errors_col.Goals as goal

pub returns-in_err-check_turn : goal.returns-in_err-check_turn
unfolding verdict_of load_state
returns-in_err-check_turn c =
    let a = c.args in
    let e = handed_on c.from_residual.result c.from_residual.ensures.1 in
    let q = errors-refused a.m a.t a.size a.col a.blocks a.info.now a.red.now a.seed a.limit _ (ap verdict_of e ∙ c.in_err-check_turn.ensures)
    (check_refused e) in
    (ap (λ (e : WithErrors). e.verdict) q, ap (λ (e : WithErrors). e.frame) q, ap load_state e ∙ ap (λ (e : WithErrors). e.state) q)

pub returns : goal.returns
unfolding verdict_of load_state
returns c =
    let a = c.args in
    let info = c.turn_drawn-between in
    let red = c.turn_drawn in
    let q = errors-done a.m a.t a.size a.col a.blocks a.info.now a.red.now a.seed a.limit c.in_ok-check_turn.ensures
    info.result red.result _ _ info.ensures.1 info.ensures.0 red.ensures.0 red.ensures.1 in (
      ap (λ (e : WithErrors). e.verdict) q,
      ap (λ (e : WithErrors). e.frame) q,
      ap (λ (e : WithErrors). e.state) q,
    )
