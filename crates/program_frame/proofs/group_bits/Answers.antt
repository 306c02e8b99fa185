-- The array is long enough.
use Rattle.program.proofs.ProgramReady.{room_for}
use Rattle.program_frame.proofs.group_bits.Goals as goal

pub returns : goal.returns
returns c = room_for _ 245941 0 c.requires
