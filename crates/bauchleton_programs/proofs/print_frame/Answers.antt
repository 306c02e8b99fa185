-- The status of what was printed is that of the verdict.
use Prim.Native.Nat.{◌≤◌}
use lib.ListN.{length}
use native.Mathlib.Omega.{arith}
use Rattle.text.proofs.ExitStatus.{frame_status}
use Rattle.program.specs.Output.{most-output}
use Rattle.bauchleton_programs.proofs.Status.{exits}
use Rattle.bauchleton_programs.proofs.print_frame.Goals as goal

pub returns : goal.returns
returns g c =
    let made = c.output_bytes-out in
    let room : most-output ≤ length made.result = omega (arith, made.ensures) in
    exits _ _ _ _ _ _ (frame_status _ _) room c.frame_output-n.ensures c.print_output.ensures
