-- What the start refuses is printed; behind it the call is made.
use Rattle.program.proofs.Starting.{begun_goes, begun_stops}
use Rattle.program.proofs.Printing.{printed_as}
use Rattle.program_mend.proofs.Mending.{mend_stopped}
use Rattle.program_mend.proofs.mend_inputs.Goals as goal

pub mend_arrays-requires-clause-scanned : goal.mend_arrays-requires-clause-scanned
mend_arrays-requires-clause-scanned c = begun_goes _ _ _ _ c.begin.ensures _ _ c.in-Ok.is

pub returns-in-Err : goal.returns-in-Err
returns-in-Err c = printed_as _ _ _ _ _ (mend_stopped _ _ _ _ (begun_stops _ _ _ _ c.begin.ensures _ c.in-Err.is)) c.put_refusal.ensures
