-- The loop's invariant: the first b blocks are encoded.
use Rattle.design.specs.Sizes.{params_of}
use Rattle.original_encoder.proofs.Blocks.{Done}
use Rattle.original_encoder.proofs.encode_blocks.Given as goal

abbrev pub invariant-loop-b : goal.invariant-loop-b
invariant-loop-b l = Done (params_of l.d) l.initial.buffer l.b l.buffer
