-- The parts of the local arrays are as long as the tables.
use native.Mathlib.Omega.{arith}
use Rattle.bch_field.proofs.Solved.{sizes}
use Rattle.bch_field.proofs.fill_field.Goals as goal

pub slice_bounds-powers-end : goal.slice_bounds-powers-end
slice_bounds-powers-end c =
    omega (arith, c.requires.2, sizes c.args.m c.requires.0 c.requires.1)

pub slice_bounds-logs-end : goal.slice_bounds-logs-end
slice_bounds-logs-end c =
    omega (arith, c.requires.2, sizes c.args.m c.requires.0 c.requires.1)
