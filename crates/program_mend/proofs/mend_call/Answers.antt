-- Kit and frame are read, the decoder is called, and what it answers is printed.
use mathlib.Core.Path.{◌∙◌}
use Rattle.program.proofs.ProgramReady.{kit_reads}
use Rattle.program.proofs.Printing.{printed_as}
use Rattle.program_mend.proofs.Mending.{frame-fits, frame_read, mend_printed}
use Rattle.program_mend.proofs.mend_call.Goals as goal

pub unwrap-requires : goal.unwrap-requires
unwrap-requires c = kit_reads _ _ _ _ _ _ _ _ _ _ _ _ c.requires.mend_ready _ c.read_kit.ensures.result_value

pub unwrap-requires-2 : goal.unwrap-requires-2
unwrap-requires-2 c = frame_read _ _ _ _ _ _ _ _ _ _ c.requires.mend_ready _ c.read_frame.ensures.result_value

pub put_decoded-requires-clause-frame_sized : goal.put_decoded-requires-clause-frame_sized
put_decoded-requires-clause-frame_sized c =
    frame-fits _ _ _ _ _ _ _ _ _ _ c.requires.mend_ready _ _ (c.decode-made.auto.info ∙ c.read_frame.auto.info)
    (c.decode-made.auto.red ∙ c.read_frame.auto.red)

pub returns : goal.returns
returns c = let k = c.read_kit.ensures in let b = c.read_frame.ensures in let e = rw (c.m.ensures, c.t.ensures, c.size.ensures) at c.decode-made.ensures in printed_as _ _ _ _ _ (mend_printed _ _ _ _ _ _ _ _ _ _ c.requires.mend_ready _ _ _ _ k.own_after k.parity_after b.info_after b.red_after _ _ _ e) c.put_decoded.ensures
