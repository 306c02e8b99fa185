-- What the start refuses is printed; behind it the call is made.
use Rattle.program.proofs.Starting.{begun_goes, begun_stops}
use Rattle.program.proofs.Printing.{printed_as}
use Rattle.program_frame.proofs.Framing.{frame_stopped}
use Rattle.program_frame.proofs.frame_inputs.Goals as goal

pub frame_arrays-requires-clause-scanned : goal.frame_arrays-requires-clause-scanned
frame_arrays-requires-clause-scanned c = begun_goes _ _ _ _ c.begin.ensures _ _ c.in-Ok.is

pub returns-in-Err : goal.returns-in-Err
returns-in-Err c = printed_as _ _ _ _ _ (frame_stopped _ _ _ _ (begun_stops _ _ _ _ c.begin.ensures _ c.in-Err.is)) c.put_refusal.ensures
