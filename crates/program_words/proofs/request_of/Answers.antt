-- Each answer by the number of words, and by the first.
use mathlib.Core.Path.{sym, ◌∙◌}
use Rattle.program_words.proofs.Words.{slices_same, words-none, words_one, words_no_kit, words-kit, words_other}
use Rattle.program_words.proofs.request_of.Goals as goal

pub returns-then-count-eq0 : goal.returns-then-count-eq0
returns-then-count-eq0 c = words-none _ _ _ _ c.if-count-eq0.true

pub returns-then-count-eq1 : goal.returns-then-count-eq1
returns-then-count-eq1 c = rw c.one_word.ensures (words_one _ _ _ _ c.if-count-eq1.true)

pub returns-then-not-kit : goal.returns-then-not-kit
returns-then-not-kit c = words_no_kit _ _ _ _ c.if-count-eq0.false c.if-count-eq1.false c.if-not-kit.true

pub returns-then-eq : goal.returns-then-eq
returns-then-eq c =
    rw c.kit_words.ensures
    (words-kit _ _ _ _ c.if-count-eq0.false c.if-count-eq1.false
    c.if-not-kit.false (sym c.if-eq.true ∙ slices_same _ c.eq.ensures c.as_slice.ensures))

pub returns : goal.returns
returns c =
    words_other _ _ _ _ c.if-count-eq0.false c.if-count-eq1.false
    c.if-not-kit.false (sym c.if-eq.false ∙ slices_same _ c.eq.ensures c.as_slice.ensures)
