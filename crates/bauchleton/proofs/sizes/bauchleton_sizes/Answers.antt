-- The design and the number of blocks are refused, or the sizes are told.
use mathlib.Core.Path.{◌∙◌}
use Rattle.answers.specs.Answers.{refusal_verdict}
use Rattle.answers.proofs.Checks.{refusal_refuses}
use Rattle.design.proofs.Answers.{made-allowed}
use Rattle.rules_verdict.proofs.Stores.{judged-told}
use Rattle.bauchleton.specs.FrameSizes.{no_sizes}
use Rattle.bauchleton.proofs.Answers.{refusal_of}
use Rattle.bauchleton.proofs.FrameSizes.{sizes-none, sizes-some}
use Rattle.bauchleton.proofs.sizes.bauchleton_sizes.Goals as goal

pub sizes_of-requires : goal.sizes_of-requires
sizes_of-requires c = (made-allowed c.in-Ok.is c.design_for.ensures.allowed, rw c.in-Ok.is at c.design_for.ensures.count)

pub returns-in-Ok : goal.returns-in-Ok
returns-in-Ok c =
    let a = c.args in
    let made = c.design_for in
    sizes-some a.m a.t a.size a.blocks a.answer.now made.result c.in-Ok.d c.sizes_of.result c.in-Ok.is
    made.ensures.verdict made.ensures.numbers c.sizes_of.ensures c.tell_sizes.ensures

pub returns-in-Err : goal.returns-in-Err
returns-in-Err c =
    let a = c.args in
    let r = c.in-Err.r in
    sizes-none a.m a.t a.size a.blocks a.answer.now (refusal_verdict r) (refusal_refuses r)
    (refusal_of c.in-Err.is ∙ c.design_for.ensures.verdict)
    (judged-told no_sizes a.answer.now (refusal_verdict r) c.from.ensures c.tell.ensures)
