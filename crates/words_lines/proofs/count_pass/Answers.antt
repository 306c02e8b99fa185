use native.Mathlib.Omega.{arith}
use Rattle.staircase.specs.Frame.{frame_of}
use Rattle.design.specs.Sizes.{params_of}
use Rattle.words_lines.specs.Words.{layout_with, pass_sites}
use Rattle.words_lines.proofs.Count.{none_yet, next_line}
use Rattle.words_lines.proofs.count_pass.Goals as goal

pub loop-k-init : goal.loop-k-init
loop-k-init c =
    let a = c.args in
    let g = a.pass.frames in (
      c.line_count-lines.ensures.0,
      omega arith,
      omega arith,
      none_yet (params_of g.d) (frame_of a.info.now a.red.now) (pass_sites g.shape (layout_with g a.own.now a.parity.now) a.pass.back),
    )

pub loop-k-preserved : goal.loop-k-preserved
loop-k-preserved c =
    let a = c.args in
    let g = a.pass.frames in
    let l = c.loop-k in
    let more = c.count_line-total in (
      l.invariant.0,
      omega (arith, c.loop-k-test.true),
      omega (arith, l.invariant.2, more.ensures.1),
      next_line (params_of g.d) (frame_of a.info.now a.red.now) (pass_sites g.shape (layout_with g a.own.now a.parity.now) a.pass.back) l.k
          l.total more.result l.invariant.3 more.ensures.0,
    )
