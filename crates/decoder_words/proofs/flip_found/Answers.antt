-- The located bits are flipped where all of them are sent, in the buffers and in the marks behind the numbers.
use mathlib.Core.Path.{sym, ap, ◌∙◌}
use Rattle.decoder_kept.specs.Numbers.{kept_at}
use Rattle.decoder_kept.proofs.Words.{number_is}
use Rattle.decoder_lines.proofs.Layouts.{size-high}
use Rattle.decoder_words.proofs.Word.{word-remainder, located-line, inside_frame, none_found, all_found}
use Rattle.decoder_words.proofs.Corrected.{word_kept}
use Rattle.decoder_words.proofs.Marks.{flippable, flipped_kept, flipped_marks}
use Rattle.decoder_words.proofs.flip_found.Goals as goal

pub word_number-w-requires : goal.word_number-w-requires
word_number-w-requires c =
    let F = c.requires.0.fits in (F.within, F.frames.few-blocks, size-high F.frames, c.requires.1)

pub locate_errors-found-requires : goal.locate_errors-found-requires
locate_errors-found-requires c =
    let p = c.requires in
    let a = c.args in
    let x = c.get-x.ensures ∙ ap (kept_at a.kept.now) c.word_number-w.ensures.0 in
    (p.0.word-tables, word-remainder p.0 p.2.frame a.a p.1 (number_is a.kept.now _ (word_kept p.0.fits a.a p.1 p.2) x))

pub sites_of-spots-requires : goal.sites_of-spots-requires
sites_of-spots-requires c =
    let p = c.requires in
    let a = c.args in
    let x = c.get-x.ensures ∙ ap (kept_at a.kept.now) c.word_number-w.ensures.0 in
    let n = number_is a.kept.now _ (word_kept p.0.fits a.a p.1 p.2) x in
    let z = c.locate_errors-found in
    (p.0.fits, p.1, located-line p.0 p.2.frame a.a p.1 n z.result z.ensures)

pub returns-then-not-all_sent : goal.returns-then-not-all_sent
returns-then-not-all_sent c =
    let p = c.requires in
    let a = c.args in
    let x = c.get-x.ensures ∙ ap (kept_at a.kept.now) c.word_number-w.ensures.0 in
    let n = number_is a.kept.now _ (word_kept p.0.fits a.a p.1 p.2) x in
    let z = c.locate_errors-found in
    let y = c.all_sent in
    let f = none_found p.0 p.2.frame a.a p.1 n z.result z.ensures c.sites_of-spots.ensures.0 (sym y.ensures ∙ c.if-not-all_sent.true) in
    (f.0, f.1, f.2, p.2, λ g M. M)

pub number_bytes-n-requires : goal.number_bytes-n-requires
number_bytes-n-requires c = let F = c.requires.0.fits.frames in (F.few-blocks, size-high F)

pub flip_all-requires : goal.flip_all-requires
flip_all-requires c =
    let p = c.requires in
    let a = c.args in
    let y = c.sites_of-spots in
    (inside_frame y.result a.line.frames a.links.now p.2.frame y.ensures.2, flippable p.2 p.0.fits.frames c.number_bytes-n.result c.number_bytes-n.ensures.0)

pub returns : goal.returns
returns c =
    let p = c.requires in
    let a = c.args in
    let x = c.get-x.ensures ∙ ap (kept_at a.kept.now) c.word_number-w.ensures.0 in
    let n = number_is a.kept.now _ (word_kept p.0.fits a.a p.1 p.2) x in
    let z = c.locate_errors-found in
    let y = c.all_sent in
    let b = c.number_bytes-n in
    let v = c.flip_all in
    let f = all_found p.0 p.2.frame a.a p.1 n z.result z.ensures c.sites_of-spots.ensures.0 (sym y.ensures ∙ c.if-not-all_sent.false) v.ensures.0 in
    let m = v.new.marks in (
      f.0,
      f.1,
      f.2,
      flipped_kept p.2 p.0.fits.frames b.result b.ensures.0 m v.ensures.1,
      flipped_marks p.2 p.0.fits.frames b.result b.ensures.0 m v.ensures.1 v.ensures.2,
    )
