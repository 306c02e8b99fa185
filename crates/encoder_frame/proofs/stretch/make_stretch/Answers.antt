-- The groups are started, and solved by words that are a part of a local array, which is 0.
use mathlib.Core.Path.{ap, ◌∙◌, subst⁻¹}
use mathlib.Core.List.{List}
use Prim.Native.Nat.{ℕ, ◌+◌, ◌-◌, ◌*◌}
use native.Mathlib.Omega.{arith}
use lib.ListN.{length, replicate}
use Rattle.bch.specs.Polynomial.{Bits}
use Rattle.staircase.proofs.Tabulate.{concat-length}
use Rattle.words_blocks.proofs.Sums.{part_length}
use Rattle.encoder_solution.proofs.Solution.{zeros-part}
use Rattle.encoder_frame.specs.Groups.{start_at}
use Rattle.encoder_frame.proofs.Joined.{concat-bits}
use Rattle.encoder_frame.proofs.FrameGroups.{start_at-length, start_at-bits, stretch-made}
use Rattle.encoder_frame.proofs.stretch.make_stretch.Goals as goal

pub solve_groups-requires : goal.solve_groups-requires
solve_groups-requires c =
    let a = c.args in
    let p = c.requires in
    let z = a.sizes in
    let n = z.size * z.r in
    let x = c.start_groups in
    let zeros : List ℕ = replicate 4096 0 in
    let f : ℕ → List ℕ = λ g. start_at a.columns.now a.positions.now z.size z.r z.blocks a.info.now (a.first + g) in (
      p.1,
      p.2,
      part_length zeros 0 n n (omega arith) (omega (arith, p.0.tables.small)),
      λ q. zeros-part 4096 (n - 0) q,
      ap length x.ensures ∙ concat-length a.count (2 * n) f (λ g. start_at-length a.columns.now a.positions.now z.size z.r z.blocks a.info.now
          (a.first + g)),
      subst⁻¹ Bits x.ensures (concat-bits a.count f (λ g. start_at-bits a.columns.now a.positions.now z.size z.r z.blocks a.info.now (a.first + g))),
    )

pub returns : goal.returns
returns c =
    let a = c.args in
    let z = a.sizes in
    let x = c.start_groups in
    stretch-made a.columns.now a.positions.now a.preimages.now a.inverse.now z.size z.r z.blocks a.info.now a.first a.count c.requires.1
    x.new.red _ x.ensures c.solve_groups.ensures
