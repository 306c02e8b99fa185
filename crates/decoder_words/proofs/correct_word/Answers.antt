-- The word's bits, then the numbers of the words that cross, then its own; or its mark.
use mathlib.Core.Path.{sym, ap, ◌∙◌, subst, subst⁻¹}
use mathlib.Core.List.{List}
use Prim.Native.Nat.{ℕ, ◌+◌, ◌*◌, ◌%◌}
use Rattle.decoder_flips.proofs.Positions.{sent_found, flips-is}
use Rattle.layout.specs.Layouts.{lines_in, bits_in}
use Rattle.decoder_lines.specs.Layouts.{line_word, PowersFit}
use Rattle.decoder_lines.proofs.Layouts.{size-high}
use Rattle.design.specs.Sizes.{params_of}
use Rattle.decoder_kept.specs.Numbers.{kept_at, OnlyAt}
use Rattle.decoder_kept.proofs.Numbers.{only-behind}
use Rattle.decoder_locator.specs.Located.{positions_of}
use Rattle.decoder_words.proofs.Tables.{first_part}
use Rattle.decoder_words.proofs.Word.{table_powers}
use Rattle.decoder_words.proofs.Marks.{numbers-within, marks_stay}
use Rattle.decoder_words.proofs.Corrected.{added_behind, word-stuck, word-corrected}
use Rattle.decoder_words.proofs.correct_word.Goals as goal

pub word_number-w-requires : goal.word_number-w-requires
word_number-w-requires c =
    let F = c.requires.0.fits in (F.within, F.frames.few-blocks, size-high F.frames, c.requires.1)

pub returns-then-count-eq0 : goal.returns-then-count-eq0
returns-then-count-eq0 c =
    let p = c.requires in
    let a = c.args in
    let ff = c.flip_found-found in
    let K = ff.ensures.3 in
    let b = ff.new.kept in
    let w = c.word_number-w in
    let x = c.get-x.ensures ∙ ap (kept_at b) w.ensures.0 in
    let k = c.count_of-count.ensures.0 in
    let z = c.if-count-eq0.true in
    let put = c.put in
    let O = subst (λ (v : ℕ). OnlyAt b put.new.kept v (c.get-x.result % 2147483648 + 2147483648)) w.ensures.0 put.ensures in (
      ff.ensures.0,
      flips-is _ _ (line_word a.line a.links.now a.a) ff.result ff.ensures.1 (sym z ∙ k),
      word-stuck p.0.fits a.a p.1 K ff.result ff.ensures.1 x k z O ff.ensures.0,
      marks_stay a.line.frames a.kept.now b put.new.kept ff.ensures.4 (only-behind (lines_in a.line.frames.shape a.line.frames.blocks * a.line.frames.d.size) w.ensures.1 put.ensures),
    )

pub add_powers-requires : goal.add_powers-requires
add_powers-requires c =
    let p = c.requires in
    let a = c.args in
    let ff = c.flip_found-found in
    let P = subst⁻¹ (λ (l : List ℕ). PowersFit a.line.frames l) (first_part a.tables.now c.word_bits-n.result (bits_in a.line.frames.shape (params_of a.line.frames.d)) c.word_bits-n.ensures.0) (table_powers p.0.word-tables) in
    (p.0.fits, P, p.1, sent_found _ _ (line_word a.line a.links.now a.a) ff.result ff.ensures.1 _ ff.ensures.2, numbers-within ff.ensures.3)

pub returns : goal.returns
returns c =
    let p = c.requires in
    let a = c.args in
    let ff = c.flip_found-found in
    let K = ff.ensures.3 in
    let w = c.word_number-w in
    let k = c.count_of-count.ensures.0 in
    let C = c.add_powers.ensures in
    let b = c.add_powers.new.numbers in
    let put = c.put-2 in
    let O = subst (λ (v : ℕ). OnlyAt b put.new.kept v 0) w.ensures.0 put.ensures in
    let stays = only-behind (lines_in a.line.frames.shape a.line.frames.blocks * a.line.frames.d.size) w.ensures.1 put.ensures
    ∙ added_behind a.line a.links.now a.a (positions_of ff.result) _ b C.0 in (
      ff.ensures.0,
      flips-is _ _ (line_word a.line a.links.now a.a) ff.result ff.ensures.1 k,
      word-corrected p.0.fits a.a p.1 K ff.result ff.ensures.1 ff.ensures.2 k c.if-count-eq0.false C.0 C.1 O ff.ensures.0,
      marks_stay a.line.frames a.kept.now ff.new.kept put.new.kept ff.ensures.4 stays,
    )
