-- Each answer by the number of words, and by the third.
use mathlib.Core.Path.{sym, ◌∙◌}
use Rattle.program_words.proofs.Words.{kit-alone, kit_many, kit_option, kit_file}
use Rattle.program_words.proofs.kit_words.Goals as goal

pub returns-then-count-eq2 : goal.returns-then-count-eq2
returns-then-count-eq2 c = kit-alone _ _ c.if-count-eq2.true

pub returns-then-count-ne3 : goal.returns-then-count-ne3
returns-then-count-ne3 c = kit_many _ _ c.if-count-eq2.false c.if-count-ne3.true

pub returns-then-is_option : goal.returns-then-is_option
returns-then-is_option c = kit_option _ _ c.if-count-eq2.false c.if-count-ne3.false (sym c.if-is_option.true ∙ c.is_option.ensures)

pub returns : goal.returns
returns c = kit_file _ _ c.if-count-eq2.false c.if-count-ne3.false (sym c.if-is_option.false ∙ c.is_option.ensures)
