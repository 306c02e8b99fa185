-- The arrays have room for the inverse and the working bytes.
use Rattle.program_makekit.proofs.Making.{inverse-room, make_ready}
use Rattle.program_makekit.proofs.kit_arrays.Goals as goal

pub matrix_bytes-inverse-requires : goal.matrix_bytes-inverse-requires
matrix_bytes-inverse-requires c =
    inverse-room _ _ _ _ c.requires.measured _ _ c.order-n.ensures.0 c.row_bytes-w.ensures.0

pub make_kit-requires-clause-make_ready : goal.make_kit-requires-clause-make_ready
make_kit-requires-clause-make_ready c =
    make_ready _ _ _ _ c.requires.measured _ _ c.order-n.ensures.0 c.row_bytes-w.ensures.0 _ _ c.matrix_bytes-inverse.ensures.1
    c.work_bytes-work.ensures.1
