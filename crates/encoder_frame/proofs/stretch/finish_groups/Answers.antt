use mathlib.Core.Path.{◌≡◌, ap, ◌∙◌, subst⁻¹}
use mathlib.Core.List.{List}
use Prim.Native.Nat.{ℕ, ◌*◌}
use native.Mathlib.Omega.{arith}
use lib.ListN.{length}
use Rattle.bch.specs.Polynomial.{Bits}
use Rattle.staircase.specs.Batch.{frame_at}
use Rattle.staircase.proofs.Batch.{frame-bits}
use Rattle.staircase.proofs.Bounds.{stretch-end}
use Rattle.staircase.proofs.Fill.{stretches_none, stretches_more, stretches_all}
use Rattle.bch_remainders.proofs.Rows.{row-length}
use Rattle.encoder_frame.specs.Group.{finished_of}
use Rattle.encoder_frame.proofs.Lending.{part_of}
use Rattle.encoder_frame.proofs.Finish.{finished_of-length}
use Rattle.encoder_frame.proofs.Joined.{stretches_next}
use Rattle.encoder_frame.proofs.stretch.finish_groups.Goals as goal

pub loop-g-init : goal.loop-g-init
loop-g-init c =
    let a = c.args in
    let w = 2 * (a.size * a.r) in (
      omega arith,
      omega arith,
      c.requires.3,
      stretches_none (λ k. finished_of a.words.now k a.part.now a.size a.r
          (frame_at w a.red.now k)) a.red.now w,
    )

pub finish_group-requires : goal.finish_group-requires
finish_group-requires c =
    let a = c.args in
    let p = c.requires in
    let l = c.loop-g in
    let w = 2 * (a.size * a.r) in
    let f : ℕ → List ℕ = λ k. finished_of a.words.now k a.part.now a.size a.r (frame_at w a.red.now k) in
    let next = part_of l.red l.g w ∙ stretches_next f a.red.now w (λ k. finished_of-length a.words.now k a.part.now a.size a.r
    (frame_at w a.red.now k)) l.red l.g l.invariant.3 in (
      p.0,
      omega arith,
      p.2,
      row-length l.red (l.g * w) w (omega (arith, stretch-end l.g a.count w (omega arith))),
      subst⁻¹ Bits next (frame-bits w a.red.now p.4 l.g),
      p.5,
      p.6,
      p.7,
      p.8,
      p.9,
    )

pub loop-g-preserved : goal.loop-g-preserved
loop-g-preserved c =
    let a = c.args in
    let l = c.loop-g in
    let w = 2 * (a.size * a.r) in
    let f : ℕ → List ℕ = λ k. finished_of a.words.now k a.part.now a.size a.r (frame_at w a.red.now k) in
    let wide : (k : ℕ) → length (f k) ≡ w = λ k. finished_of-length a.words.now k a.part.now a.size a.r (frame_at w a.red.now k) in
    let next = part_of l.red l.g w ∙ stretches_next f a.red.now w wide l.red l.g l.invariant.3 in (
      omega arith,
      omega arith,
      omega arith,
      stretches_more f a.red.now w wide l.red _ l.g l.invariant.3
          (c.finish_group.ensures ∙ ap (finished_of a.words.now l.g a.part.now a.size a.r) next),
    )

pub returns : goal.returns
returns c =
    let a = c.args in
    let l = c.loop-g in
    let w = 2 * (a.size * a.r) in
    let f : ℕ → List ℕ = λ k. finished_of a.words.now k a.part.now a.size a.r (frame_at w a.red.now k) in
    l.invariant.3 ∙ stretches_all f a.red.now w l.g a.count (omega arith) c.requires.3
