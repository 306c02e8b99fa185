use mathlib.Core.Path.{◌∙◌}
use mathlib.Core.List.{List}
use Prim.Native.Nat.{ℕ, ◌+◌, ◌*◌}
use native.Mathlib.Omega.{arith}
use Rattle.staircase.proofs.Fill.{stretches_none, stretches_more, stretches_all}
use Rattle.encoder_frame.specs.Groups.{start_at}
use Rattle.encoder_frame.proofs.FrameGroups.{start_at-length}
use Rattle.encoder_frame.proofs.stretch.start_groups.Goals as goal

pub loop-g-init : goal.loop-g-init
loop-g-init c =
    let a = c.args in
    let z = a.sizes in (
      omega arith,
      omega arith,
      c.requires.2,
      stretches_none (λ k. start_at a.columns.now a.positions.now z.size z.r z.blocks
          a.info.now (a.first + k)) a.red.now (2 * (z.size * z.r)),
    )

pub loop-g-preserved : goal.loop-g-preserved
loop-g-preserved c =
    let a = c.args in
    let z = a.sizes in
    let l = c.loop-g in
    let f : ℕ → List ℕ = λ k. start_at a.columns.now a.positions.now z.size z.r z.blocks a.info.now (a.first + k) in (
      omega arith,
      omega arith,
      omega arith,
      stretches_more f a.red.now (2 * (z.size * z.r)) (λ k. start_at-length a.columns.now a.positions.now z.size z.r z.blocks a.info.now
          (a.first + k)) l.red _ l.g
          l.invariant.3 c.start_at.ensures,
    )

pub returns : goal.returns
returns c =
    let a = c.args in
    let z = a.sizes in
    let l = c.loop-g in
    let f : ℕ → List ℕ = λ k. start_at a.columns.now a.positions.now z.size z.r z.blocks a.info.now (a.first + k) in
    l.invariant.3 ∙ stretches_all f a.red.now (2 * (z.size * z.r)) l.g a.count (omega arith) c.requires.2
