-- A refusal of rules 4 to 6 is the answer; else that of rule 10.
use mathlib.Core.Path.{refl, ◌∙◌}
use Rattle.answers.proofs.Checks.{refused_on, passed_then}
use Rattle.rules.specs.Bytes.{buffer_verdict}
use Rattle.rules.proofs.check_buffer.Goals as goal

pub returns-in_err-check_frame : goal.returns-in_err-check_frame
unfolding buffer_verdict
returns-in_err-check_frame c = refused_on _ c.in_err-check_frame.ensures _ refl c.from_residual.ensures

pub returns : goal.returns
unfolding buffer_verdict
returns c = c.check_bits.ensures ∙ passed_then _ c.in_ok-check_frame.ensures refl
