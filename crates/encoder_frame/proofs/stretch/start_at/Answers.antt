-- The frame of the group is lent.
use mathlib.Core.Path.{subst⁻¹}
use mathlib.Core.List.{List}
use Prim.Native.Nat.{ℕ, ◌*◌, ◌/◌, ◌%◌, ◌<◌}
use native.Mathlib.Omega.{arith}
use Rattle.staircase.specs.Frame.{groups}
use Rattle.staircase.proofs.Bounds.{stretch-end}
use Rattle.encoder_frame.specs.Groups.{FrameReady}
use Rattle.encoder_frame.proofs.Lending.{frame-of, part_of, group-number, start-at}
use Rattle.encoder_frame.proofs.stretch.start_at.Goals as goal

pub overflow_mul-from : goal.overflow_mul-from
overflow_mul-from c =
    let z = c.args.sizes in
    let m = c.group_count-count in
    let at = subst⁻¹ (λ (k : ℕ). c.args.q / k < z.frames) m.ensures (group-number z.frames (groups z.blocks) c.args.q c.requires.1).frame in
    omega (arith, stretch-end (c.args.q / m.result) z.frames (z.blocks * (z.size * z.size)) at, c.requires.0.blocks)

pub overflow_add-from : goal.overflow_add-from
overflow_add-from c =
    let z = c.args.sizes in
    let m = c.group_count-count in
    let at = subst⁻¹ (λ (k : ℕ). c.args.q / k < z.frames) m.ensures (group-number z.frames (groups z.blocks) c.args.q c.requires.1).frame in
    omega (arith, stretch-end (c.args.q / m.result) z.frames (z.blocks * (z.size * z.size)) at, c.requires.0.blocks)

pub slice_bounds-start_group-end : goal.slice_bounds-start_group-end
slice_bounds-start_group-end c =
    let z = c.args.sizes in
    let m = c.group_count-count in
    let at = subst⁻¹ (λ (k : ℕ). c.args.q / k < z.frames) m.ensures (group-number z.frames (groups z.blocks) c.args.q c.requires.1).frame in
    omega (arith, stretch-end (c.args.q / m.result) z.frames (z.blocks * (z.size * z.size)) at, c.requires.0.blocks)

pub start_group-requires : goal.start_group-requires
start_group-requires c =
    let a = c.args in
    let z = a.sizes in
    let m = c.group_count-count in
    let number = group-number z.frames (groups z.blocks) a.q c.requires.1 in
    let at = subst⁻¹ (λ (k : ℕ). a.q / k < z.frames) m.ensures number.frame in (
      subst⁻¹ (λ (x : List ℕ). FrameReady z.blocks z.size z.r x a.columns.now a.positions.now) (part_of a.info.now (a.q / m.result) (z.blocks *
          (z.size * z.size)))
          (frame-of c.requires.0 (a.q / m.result) at),
      subst⁻¹ (λ (k : ℕ). a.q % k < groups z.blocks) m.ensures number.group,
      c.requires.2,
    )

pub returns : goal.returns
returns c =
    let a = c.args in
    let z = a.sizes in
    start-at a.columns.now a.positions.now z.size z.r z.blocks a.info.now a.q
    c.group_count-count.ensures c.start_group.ensures
