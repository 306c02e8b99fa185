-- The output's own status, or that of a failure.
use mathlib.Core.Path.{refl}
use mathlib.Core.Logic.{inl, inr}
use Rattle.bauchleton_programs.specs.Exit.{status_of}
use Rattle.bauchleton_programs.proofs.print_output.Goals as goal

pub returns-then-write_output : goal.returns-then-write_output
returns-then-write_output g c = inl c.output_status.ensures

pub returns : goal.returns
unfolding status_of
returns g c = inr refl
