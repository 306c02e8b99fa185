-- Each answer by the first letter.
use mathlib.Core.Path.{refl, sym, ◌∙◌}
use Rattle.bauchleton_programs.proofs.Status.{first_letter, status_refused, status_other}
use Rattle.bauchleton_programs.proofs.output_status.Goals as goal

pub returns-then-eq : goal.returns-then-eq
returns-then-eq c = status_refused _ (sym (first_letter _ _ _ refl c.first.ensures.value) ∙ sym c.eq.ensures ∙ c.if-eq.true)

pub returns : goal.returns
returns c = status_other _ (sym (first_letter _ _ _ refl c.first.ensures.value) ∙ sym c.eq.ensures ∙ c.if-eq.false)
