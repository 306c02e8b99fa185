-- Each answer of the decoder prints what it says.
use Rattle.program_mend.proofs.Mending.{decoded-prints, refused-prints}
use Rattle.program_mend.proofs.put_decoded.Goals as goal

pub returns-in-Err : goal.returns-in-Err
returns-in-Err c = refused-prints c.args.d _ _ _ _ _ _ _ c.in-Err.is (c.put_refused.ensures _)

pub returns-in-Ok : goal.returns-in-Ok
returns-in-Ok c = decoded-prints c.args.d _ _ _ _ _ _ _ c.in-Ok.is c.put_corrected.ensures
