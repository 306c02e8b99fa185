-- The call ends at a refusal, or with the bits filled.
use mathlib.Core.Path.{ap, ◌∙◌}
use Rattle.staircase.specs.Load.{Filled}
use Rattle.answers.specs.Answers.{verdict_of}
use Rattle.answers.proofs.Checks.{handed_on, check_refused}
use Rattle.generator.specs.Answers.{load_state}
use Rattle.load.proofs.LoadCalls.{fill_refused, fill_done}
use Rattle.load.proofs.fill_col.Goals as goal

pub returns-in_err-check_fill : goal.returns-in_err-check_fill
unfolding verdict_of load_state
returns-in_err-check_fill c =
    let a = c.args in
    let e = handed_on c.from_residual.result c.from_residual.ensures.1 in
    let q = fill_refused a.m a.t a.size a.col a.blocks a.seed a.info.now _ (ap verdict_of e ∙ c.in_err-check_fill.ensures) (check_refused e) in
    (ap (λ (f : Filled). f.verdict) q, ap (λ (f : Filled). f.info) q, ap load_state e ∙ ap (λ (f : Filled). f.state) q)

pub returns : goal.returns
unfolding verdict_of load_state
returns c =
    let a = c.args in
    let bits = c.fill_bits in
    let q = fill_done a.m a.t a.size a.col a.blocks a.seed a.info.now c.in_ok-check_fill.ensures in (
      ap (λ (f : Filled). f.verdict) q,
      bits.ensures.0 ∙ ap (λ (f : Filled). f.info) q,
      bits.ensures.1 ∙ ap (λ (f : Filled). f.state) q,
    )
