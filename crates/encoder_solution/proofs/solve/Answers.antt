-- The working words are those of local arrays, which are 0.
use mathlib.Core.Path.{refl}
use Prim.Native.Nat.{◌-◌, ◌*◌}
use native.Mathlib.Omega.{arith}
use Rattle.bch.proofs.Store.{zeros-at}
use Rattle.words_blocks.proofs.Sums.{part_length}
use Rattle.encoder_solution.proofs.Solution.{zeros-part}
use Rattle.encoder_solution.proofs.solve.Goals as goal

pub solve_in-requires : goal.solve_in-requires
solve_in-requires c =
    let p = c.requires in
    let n = c.args.size * c.args.r in
    (p.0, p.1, p.2, p.3, p.4, refl, zeros-at 4096, part_length _ 0 n n (omega arith) (omega arith), λ k. zeros-part 4096 (n - 0) k, p.5)
