-- Kit and blocks are read, the encoder is called, and what it answers is printed.
use Rattle.program.proofs.ProgramReady.{kit_reads}
use Rattle.program.proofs.Printing.{printed_as}
use Rattle.program_frame.proofs.Framing.{groups-fit, blocks_read, frame-printed}
use Rattle.program_frame.proofs.frame_call.Goals as goal

pub unwrap-requires : goal.unwrap-requires
unwrap-requires c = kit_reads _ _ _ _ _ _ _ _ _ _ _ _ c.requires.frame_ready _ c.read_kit.ensures.result_value

pub unwrap-requires-2 : goal.unwrap-requires-2
unwrap-requires-2 c = blocks_read _ _ _ _ _ _ _ _ _ _ c.requires.frame_ready _ c.read_blocks.ensures.result_value

pub put_encoded-requires-clause-groups_fit : goal.put_encoded-requires-clause-groups_fit
put_encoded-requires-clause-groups_fit c = groups-fit _ _ _ _ _ _ _ _ _ _ c.requires.frame_ready _ c.encode-made.auto.red

pub returns : goal.returns
returns c = let k = c.read_kit.ensures in let e = rw (c.m.ensures, c.t.ensures, c.size.ensures) at c.encode-made.ensures in printed_as _ _ _ _ _ (frame-printed _ _ _ _ _ _ _ _ _ _ c.requires.frame_ready _ _ _ _ k.own_after k.parity_after k.inverse_after c.read_blocks.ensures.info_after _ _ e.0 e.1) c.put_encoded.ensures
