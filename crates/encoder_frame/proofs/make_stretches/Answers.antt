use mathlib.Core.Path.{◌≡◌, ap, ◌∙◌}
use mathlib.Core.List.{List}
use Prim.Native.Nat.{ℕ, ◌+◌, ◌*◌, ◌≤◌, ◌<◌, min}
use native.Mathlib.Omega.{arith}
use Rattle.staircase.specs.Frame.{groups}
use Rattle.staircase.proofs.Fill.{stretches, stretches_none, stretches_all}
use Rattle.encoder_frame.specs.Groups.{group_at}
use Rattle.encoder_frame.proofs.Joined.{several_end, stretches_several}
use Rattle.encoder_frame.proofs.FrameGroups.{group_at-length}
use Rattle.encoder_frame.proofs.make_stretches.Goals as goal
use Rattle.encoder_frame.proofs.make_stretches.Goals.{After-min-n}

-- a stretch begins within the groups and ends within them
within : (c : After-min-n) → let z = c.args.sizes in let count = z.frames * groups z.blocks in let first = 64 * c.loop-k.k in let w = 2 * (z.size * z.r) in
    (first < count) × (first + c.min-n.result ≡ min (64 * (c.loop-k.k + 1)) count) × (first * w + c.min-n.result * w ≤ count * w)
within c =
    let z = c.args.sizes in
    let l = c.loop-k in
    let count = z.frames * groups z.blocks in
    let some : 64 * l.k < count = omega (arith, c.div_ceil-k-end.ensures, l.invariant.0) in
    let end : 64 * l.k + c.min-n.result ≤ count = omega (arith, c.min-n.ensures, l.invariant.0) in
    (some, omega (arith, c.min-n.ensures, l.invariant.0, some), several_end (64 * l.k) c.min-n.result count (2 * (z.size * z.r)) end)

pub loop-k-init : goal.loop-k-init
loop-k-init c =
    let a = c.args in
    let z = a.sizes in
    let f : ℕ → List ℕ = group_at a.columns.now a.positions.now a.preimages.now a.inverse.now z.size z.r z.blocks a.info.now in
    let w = 2 * (z.size * z.r) in (
      ap (λ (k : ℕ). z.frames * k) c.group_count.ensures,
      c.requires.2,
      stretches_none f a.red.now w ∙ ap (stretches f a.red.now w) (omega arith),
    )

pub slice_bounds-make_stretch-end : goal.slice_bounds-make_stretch-end
slice_bounds-make_stretch-end c =
    let t = within (goal.at.slice_bounds-make_stretch-end c).After-min-n in omega (arith, t.2, c.loop-k.invariant.1)

pub loop-k-preserved : goal.loop-k-preserved
loop-k-preserved c =
    let a = c.args in
    let z = a.sizes in
    let l = c.loop-k in
    let f : ℕ → List ℕ = group_at a.columns.now a.positions.now a.preimages.now a.inverse.now z.size z.r z.blocks a.info.now in
    let w = 2 * (z.size * z.r) in
    let t = within (goal.at.loop-k-preserved c).After-min-n in
    let before : min (64 * l.k) (z.frames * c.group_count.result) ≡ 64 * l.k = omega (arith, t.0, l.invariant.0) in
    let after : 64 * l.k + c.min-n.result ≡ min (64 * (l.k + 1)) (z.frames * c.group_count.result) = omega (arith, t.1, l.invariant.0) in (
      l.invariant.0,
      omega (arith, l.invariant.1),
      stretches_several f a.red.now w (λ q. group_at-length a.columns.now a.positions.now z.size z.r z.blocks a.info.now q a.preimages.now a.inverse.now) l.red _
          (64 * l.k) c.min-n.result (l.invariant.2 ∙ ap (stretches f a.red.now w) before) c.make_stretch.ensures
          ∙ ap (stretches f a.red.now w) after,
    )

pub returns : goal.returns
returns c =
    let a = c.args in
    let z = a.sizes in
    let l = c.loop-k in
    let f : ℕ → List ℕ = group_at a.columns.now a.positions.now a.preimages.now a.inverse.now z.size z.r z.blocks a.info.now in
    l.invariant.2 ∙ stretches_all f a.red.now (2 * (z.size * z.r)) _ (z.frames * groups z.blocks) (omega (arith, l.invariant.0, c.div_ceil-k-end.ensures)) c.requires.2
