-- A word that is passed over is clean or stuck; any other is what its correction says.
use mathlib.Core.Path.{ap, ◌∙◌}
use Rattle.decoder_kept.specs.Numbers.{kept_at}
use Rattle.decoder_kept.proofs.Words.{zero-clean, other_outcome, marked_stuck}
use Rattle.decoder_lines.proofs.Layouts.{size-high}
use Rattle.decoder_words.proofs.Corrected.{word_kept}
use Rattle.decoder_words.proofs.visit_word.Goals as goal

pub word_number-w-requires : goal.word_number-w-requires
word_number-w-requires c =
    let F = c.requires.0.fits in (F.within, F.frames.few-blocks, size-high F.frames, c.requires.1)

pub returns-then-x-eq0 : goal.returns-then-x-eq0
returns-then-x-eq0 c =
    let p = c.requires in
    let a = c.args in
    let x = c.get-x.ensures ∙ ap (kept_at a.kept.now) c.word_number-w.ensures.0 in
    let o = zero-clean a.kept.now _ (word_kept p.0.fits a.a p.1 p.2) x c.if-x-eq0.true in
    (o.0, o.1, p.2, λ f M. M)

pub returns-then-x-ge2147483648 : goal.returns-then-x-ge2147483648
returns-then-x-ge2147483648 c =
    let p = c.requires in
    let a = c.args in
    let x = c.get-x.ensures ∙ ap (kept_at a.kept.now) c.word_number-w.ensures.0 in
    let o = marked_stuck a.kept.now _ (word_kept p.0.fits a.a p.1 p.2) x c.if-x-eq0.false c.if-x-ge2147483648.true in
    (o.0, o.1, p.2, λ f M. M)

pub returns : goal.returns
returns c =
    let p = c.requires in
    let a = c.args in
    let x = c.get-x.ensures ∙ ap (kept_at a.kept.now) c.word_number-w.ensures.0 in
    let w = c.correct_word-count.ensures in
    (w.0, c.by_count.ensures ∙ other_outcome a.kept.now _ (word_kept p.0.fits a.a p.1 p.2) x c.if-x-eq0.false w.1, w.2, w.3)
