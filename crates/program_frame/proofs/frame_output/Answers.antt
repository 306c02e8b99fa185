-- A buffer that is too short, and one that is long enough.
use Rattle.program.proofs.Printing.{output-printed, output-none}
use Rattle.program_frame.proofs.frame_output.Goals as goal

pub returns-then-out-lt-MOST_OUTPUT : goal.returns-then-out-lt-MOST_OUTPUT
returns-then-out-lt-MOST_OUTPUT c = output-none _ _ c.if-out-lt-MOST_OUTPUT.true

pub returns : goal.returns
returns c = output-printed _ _ _ _ c.if-out-lt-MOST_OUTPUT.false c.frame_inputs.ensures
