-- The number, and then the byte.
use mathlib.Core.Path.{sym, ap, ◌∙◌}
use Rattle.std.specs.Result.{result_ok}
use Rattle.text_items.specs.Answers.{field_walk}
use Rattle.text_items.proofs.Handing.{handed_on}
use Rattle.text_items.proofs.Fields.{then_bad, then_stop, then_got}
use Rattle.text_items.proofs.number_then.Goals as goal

pub returns-in_err-v : goal.returns-in_err-v
returns-in_err-v c =
    ap field_walk (handed_on c.from_residual.ensures.1 ∙ sym c.in_err-v.was)
    ∙ then_bad _ _ _ _ c.number.ensures _ c.ok_or.ensures.value (c.ok_or.ensures.ok_part ∙ ap result_ok c.in_err-v.was)

pub returns-in_err-e : goal.returns-in_err-e
returns-in_err-e c =
    ap field_walk (handed_on c.from_residual-in_err-e.ensures.1)
    ∙ then_stop _ _ _ _ c.number.ensures _ _ (c.ok_or.ensures.ok_part ∙ ap result_ok c.in_ok-v.was) _ c.byte_is.ensures _ c.in_err-e.was

pub returns : goal.returns
returns c = then_got _ _ _ _ c.number.ensures _ _ (c.ok_or.ensures.ok_part ∙ ap result_ok c.in_ok-v.was) _ c.byte_is.ensures _ c.in_ok-e.was
