-- The call ends at a refusal, or with the bits of both buffers turned. A frame that passed the rules is small.
use mathlib.Core.Path.{refl, sym, ap, ◌∙◌}
use native.Mathlib.Omega.{arith}
use Rattle.staircase.specs.Load.{WithRun}
use Rattle.answers.specs.Answers.{verdict_of}
use Rattle.answers.proofs.Checks.{handed_on, check_refused, check_passed}
use Rattle.load.proofs.LoadCalls.{accepted-small, run_refused, run_done}
use Rattle.load.proofs.run_col.Goals as goal

pub returns-in_err-check_turn : goal.returns-in_err-check_turn
unfolding verdict_of
returns-in_err-check_turn c =
    let a = c.args in
    let e = handed_on c.from_residual.result c.from_residual.ensures.1 in
    let q = run_refused a.m a.t a.size a.col a.blocks a.info.now a.red.now a.place a.length _ (ap verdict_of e ∙ c.in_err-check_turn.ensures)
    (check_refused e) in
    (ap (λ (r : WithRun). r.verdict) q, ap (λ (r : WithRun). r.frame) q)

pub turn_run-requires-2 : goal.turn_run-requires-2
turn_run-requires-2 c =
    let a = c.args in
    let e = sym c.in_ok-check_turn.ensures ∙ check_passed refl in
    omega (arith, accepted-small a.m a.t a.size a.col a.blocks a.info.now a.red.now e)

pub returns : goal.returns
unfolding verdict_of
returns c =
    let a = c.args in
    let q = run_done a.m a.t a.size a.col a.blocks a.info.now a.red.now a.place a.length c.in_ok-check_turn.ensures
    _ _ c.turn_run.ensures c.turn_run-2.ensures in
    (ap (λ (r : WithRun). r.verdict) q, ap (λ (r : WithRun). r.frame) q)
