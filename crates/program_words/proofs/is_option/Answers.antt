use mathlib.Core.Path.{refl, ◌∙◌}
use Rattle.program_words.proofs.Words.{first_dash}
use Rattle.program_words.proofs.is_option.Goals as goal

pub returns : goal.returns
returns c = c.eq.ensures ∙ first_dash _ _ _ refl c.first.ensures.value
