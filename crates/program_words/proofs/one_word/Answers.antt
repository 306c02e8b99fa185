-- Each answer by the comparisons before it.
use mathlib.Core.Path.{sym, ◌∙◌}
use Rattle.program_words.proofs.Words.{slices_same, word_help, word-version, word_option, word_file}
use Rattle.program_words.proofs.one_word.Goals as goal

pub returns-then-eq : goal.returns-then-eq
returns-then-eq c = word_help _ (sym c.if-eq.true ∙ slices_same _ c.eq.ensures c.as_slice.ensures)

pub returns-then-eq-2 : goal.returns-then-eq-2
returns-then-eq-2 c =
    word-version _ (sym c.if-eq.false ∙ slices_same _ c.eq.ensures c.as_slice.ensures) (sym c.if-eq-2.true ∙ slices_same _ c.eq-2.ensures c.as_slice-2.ensures)

pub returns-then-is_option : goal.returns-then-is_option
returns-then-is_option c =
    word_option _ (sym c.if-eq.false ∙ slices_same _ c.eq.ensures c.as_slice.ensures)
    (sym c.if-eq-2.false ∙ slices_same _ c.eq-2.ensures c.as_slice-2.ensures) (sym c.if-is_option.true ∙ c.is_option.ensures)

pub returns : goal.returns
returns c =
    word_file _ (sym c.if-eq.false ∙ slices_same _ c.eq.ensures c.as_slice.ensures)
    (sym c.if-eq-2.false ∙ slices_same _ c.eq-2.ensures c.as_slice-2.ensures) (sym c.if-is_option.false ∙ c.is_option.ensures)
