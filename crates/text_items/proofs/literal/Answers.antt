use mathlib.Core.Path.{sym, ap, ◌∙◌}
use Rattle.text_items.specs.Answers.{step_walk}
use Rattle.text_items.proofs.Handing.{handed_on}
use Rattle.text_items.proofs.Fields.{lit_done, lit_stop, lit_next}
use Rattle.text_items.proofs.literal.Goals as goal

pub returns-in_err-q : goal.returns-in_err-q
returns-in_err-q c =
    ap step_walk (handed_on c.from_residual.ensures.1)
    ∙ lit_stop _ _ _ _ c.loop-b-test.true _ c.byte_is.ensures _ c.in_err-q.was
    ∙ sym c.loop-b.invariant

pub loop-b-preserved : goal.loop-b-preserved
loop-b-preserved c = c.loop-b.invariant ∙ lit_next _ _ _ _ c.loop-b-test.true _ c.byte_is.ensures _ c.in_ok-q.was

pub returns : goal.returns
returns c = sym (c.loop-b.invariant ∙ lit_done _ _ _ _ c.loop-b-test.false)
