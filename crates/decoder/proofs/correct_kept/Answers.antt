-- The numbers tell whether all words are in the code.
use mathlib.Core.Path.{◌≡◌, refl, sym, ap, ◌∙◌, subst, subst⁻¹}
use Prim.Native.Nat.{◌*◌, ◌/◌}
use native.Mathlib.Omega.{arith}
use lib.ListN.{length}
use Rattle.staircase.specs.Frame.{frame_of, outside_among}
use Rattle.staircase.specs.Layout.{kept_length}
use Rattle.staircase.proofs.Flip.{Received, bit_at-bits}
use Rattle.design.specs.Sizes.{params_of, lists_of}
use Rattle.layout.specs.declared.Shape.TheVariants.{FeedForward}
use Rattle.layout.specs.declared.Frames.{Frames}
use Rattle.layout.specs.Layouts.{lines_in}
use Rattle.words_lines.specs.Words.{layout_with, FramesLent}
use Rattle.words_lines.proofs.Lent.{received_lent, feed_sites}
use Rattle.decoder_kept.specs.Numbers.{nonzero_numbers}
use Rattle.decoder_frame.specs.Filled.{Filled}
use Rattle.decoder_frame.proofs.Feed.{feed_total, feed_bytes}
use Rattle.decoder_frame.proofs.Numbers.{kept-split, filled-outside}
use Rattle.decoder.proofs.Keeping.{corrected-idle}
use Rattle.decoder.proofs.Rounds.{feed_kept}
use Rattle.decoder.proofs.correct_kept.Goals as goal

pub fill_kept-requires : goal.fill_kept-requires
fill_kept-requires c =
    let a = c.args in
    let p = c.requires in
    subst⁻¹ (λ (g : Frames). FramesLent g a.own.now a.parity.now a.info.now a.red.now
    × (length a.kept.now ≡ kept_length (layout_with g a.own.now a.parity.now))) p.1
    (received_lent p.0, feed_kept a.frames.d a.frames.blocks a.own.now a.parity.now p.3)

pub count-wrong-requires : goal.count-wrong-requires
count-wrong-requires c =
    let f = c.args.frames in
    omega (
      arith,
      feed_bytes f.d f.blocks c.requires.1 c.number_bytes-n.ensures.0,
      c.fill_kept.ensures.0,
      c.requires.3,
      kept-split (params_of f.d) f.blocks,
    )

pub returns-then-wrong-eq0 : goal.returns-then-wrong-eq0
returns-then-wrong-eq0 c =
    let p = c.requires in
    let a = c.args in
    let d = a.frames.d in
    let L = a.frames.blocks in
    let l = lists_of d a.own.now a.parity.now in
    let f = frame_of a.info.now a.red.now in
    let n = c.number_bytes-n in
    let all : n.result / 4 ≡ lines_in FeedForward L * d.size = omega (arith, feed_bytes d L p.1 n.ensures.0, feed_total d L) in
    let kept = c.fill_kept.new.kept in
    let filled = subst (λ (g : Frames). Filled g a.own.now a.parity.now f kept) p.1 c.fill_kept.ensures.1 in
    let out = ap (nonzero_numbers kept) all ∙ filled-outside (received_lent p.0) kept filled ∙ ap (outside_among (params_of d) f) (feed_sites (params_of d) l L) in
    let itself : Received f f = record { info_length = refl; red_length = refl; binary = bit_at-bits f p.0.frame.info_bits p.0.frame.red_bits } in
    corrected-idle d L a.window.groups a.window.limit l p.0.allowed p.0.lists.own_permutes p.0.lists.parity_permutes f itself _
    c.idle_counts.ensures (sym out ∙ sym c.count-wrong.ensures ∙ c.if-wrong-eq0.true)
