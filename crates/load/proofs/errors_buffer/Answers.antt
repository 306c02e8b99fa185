-- Rule 10 refuses, or the bits are turned.
use mathlib.Core.Path.{ap, ◌∙◌}
use Rattle.staircase.specs.Load.{Filled}
use Rattle.answers.specs.Answers.{verdict_of}
use Rattle.answers.proofs.Checks.{handed_on, check_refused}
use Rattle.generator.specs.Answers.{load_state}
use Rattle.load.proofs.LoadCalls.{buffer-refused, buffer-done}
use Rattle.load.proofs.errors_buffer.Goals as goal

pub returns-in_err-check_bits : goal.returns-in_err-check_bits
unfolding verdict_of load_state
returns-in_err-check_bits c =
    let a = c.args in
    let e = handed_on c.from_residual.result c.from_residual.ensures.1 in
    let q = buffer-refused a.seed a.limit a.bits.now _ (ap verdict_of e ∙ c.in_err-check_bits.ensures) (check_refused e) in
    (ap (λ (f : Filled). f.verdict) q, ap (λ (f : Filled). f.info) q, ap load_state e ∙ ap (λ (f : Filled). f.state) q)

pub returns : goal.returns
unfolding verdict_of load_state
returns c =
    let a = c.args in
    let bits = c.turn_drawn in
    let q = buffer-done a.seed a.limit a.bits.now c.in_ok-check_bits.ensures in (
      ap (λ (f : Filled). f.verdict) q,
      bits.ensures.0 ∙ ap (λ (f : Filled). f.info) q,
      bits.ensures.1 ∙ ap (λ (f : Filled). f.state) q,
    )
