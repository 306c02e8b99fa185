-- The arrays are long enough for the parts that are lent.
use Rattle.program.proofs.ProgramReady.{few-blocks, list_room, inverse-room, info-room, red-room}
use Rattle.program_frame.proofs.frame_arrays.Goals as goal

pub sizes_of-s-requires : goal.sizes_of-s-requires
sizes_of-s-requires c = few-blocks _ _ _ _ _ c.requires.scanned

pub list_bytes-own-requires : goal.list_bytes-own-requires
list_bytes-own-requires c = list_room _ _ _ _ _ c.requires.scanned _ c.sizes_of-s.ensures

pub matrix_bytes-inverse-requires : goal.matrix_bytes-inverse-requires
matrix_bytes-inverse-requires c = inverse-room _ _ _ _ _ c.requires.scanned _ c.sizes_of-s.ensures

pub text_bits-info-requires : goal.text_bits-info-requires
text_bits-info-requires c = info-room _ _ _ _ _ c.requires.scanned _ c.sizes_of-s.ensures

pub group_bits-red-requires : goal.group_bits-red-requires
group_bits-red-requires c = red-room _ _ _ _ _ c.requires.scanned _ c.sizes_of-s.ensures
