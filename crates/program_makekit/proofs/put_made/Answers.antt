-- The text has room, and so has a refusal.
use Rattle.program.proofs.Printing.{refused-prints}
use Rattle.program_makekit.proofs.Making.{write_fits, kit-printed}
use Rattle.program_makekit.proofs.put_made.Goals as goal

pub put_kit-requires-clause-text_len : goal.put_kit-requires-clause-text_len
put_kit-requires-clause-text_len c = (write_fits _ _ _ _ _ c.requires.write_ready c.args.out.now c.requires.most_output_in_bounds).1

pub returns-in-Err : goal.returns-in-Err
returns-in-Err c = refused-prints _ _ c.in-Err.is _ _ _ _ (c.put_refused.ensures _)

pub returns-in-Ok : goal.returns-in-Ok
returns-in-Ok c =
    kit-printed _ _ _ _ _ c.requires.write_ready _ c.in-Ok.is _ _ c.requires.most_output_in_bounds c.put_kit.ensures
