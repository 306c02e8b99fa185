use mathlib.Core.Path.{ap}
use native.Mathlib.Omega.{arith}
use lib.ListN.{length, length-append}
use Rattle.decoder_marks.specs.Marks.{set_marks}
use Rattle.decoder_marks.proofs.Counted.{set_marks-append, set_marks-empty}
use Rattle.decoder_marks.proofs.count.Goals as goal

pub loop-stretch-preserved : goal.loop-stretch-preserved
loop-stretch-preserved c =
    let e = c.in-Some.ensures.steps.1.0 in
    let long = simp length-append at (ap length e) in
    let marks = rw set_marks-append at (ap set_marks e) in (
      omega (arith, long, c.count_stretch.ensures.1),
      omega (arith, marks, c.count_stretch.ensures.0),
      omega (arith, c.in-Some.ensures.steps.0),
    )

pub returns : goal.returns
returns c = (omega (arith, set_marks-empty _ c.in-None.ensures.steps.1.0), omega arith)
