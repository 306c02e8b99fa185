-- The marks are cleared, the rounds keep them and the numbers right, and then they tell which bits differ.
use mathlib.Core.Path.{◌≡◌, sym, ap, ◌∙◌}
use Prim.Native.Nat.{ℕ, ◌-◌, ◌*◌, ◌/◌}
use native.Mathlib.Omega.{arith}
use lib.ListN.{length, take, drop}
use Rattle.staircase.specs.Frame.{frame_of, outside_among}
use Rattle.staircase.proofs.Lawful.{fits_received}
use Rattle.design.specs.Sizes.{params_of}
use Rattle.decoder_kept.specs.Numbers.{nonzero_numbers}
use Rattle.decoder_marks.specs.Marks.{set_marks}
use Rattle.layout.specs.declared.Shape.TheVariants.{FeedForward}
use Rattle.layout.specs.Layouts.{lines_in}
use Rattle.words_lines.proofs.Lent.{feed_sites}
use Rattle.decoder_lines.proofs.Layouts.{size-high}
use Rattle.decoder_lines.specs.Links.{lists_in}
use Rattle.decoder_frame.proofs.Feed.{feed_total, feed_allowed, feed_bytes}
use Rattle.decoder_frame.proofs.Numbers.{kept-outside}
use Rattle.decoder.proofs.Keeping.{cleared-marks, marks-few, marks-errors, corrected-made}
use Rattle.decoder.proofs.correct_lines.Goals as goal

pub number_bytes-n-requires : goal.number_bytes-n-requires
number_bytes-n-requires c = let F = c.requires.0.fits in (F.few-blocks, size-high F)

pub run_window-made-requires : goal.run_window-made-requires
run_window-made-requires c =
    let p = c.requires in
    let a = c.args in
    let n = c.number_bytes-n in
    let y = c.clear in
    (p.0, p.1, (cleared-marks a.frames.d a.frames.blocks p.0.fits p.2 n.result (feed_bytes a.frames.d a.frames.blocks p.3 n.ensures.0) y.new.marks y.ensures).0, p.3)

pub count-turned-requires : goal.count-turned-requires
count-turned-requires c =
    let p = c.requires in
    let a = c.args in
    let n = c.number_bytes-n in
    let v = c.run_window-made in
    let long : length a.kept.now ≡ length v.new.kept = p.2.long ∙ sym v.ensures.2.long in
    rw long (marks-few a.frames.d a.frames.blocks p.0.fits v.ensures.2 n.result (feed_bytes a.frames.d a.frames.blocks p.3 n.ensures.0))

pub returns : goal.returns
returns c =
    let p = c.requires in
    let a = c.args in
    let n = c.number_bytes-n in
    let y = c.clear in
    let v = c.run_window-made in
    let kept = v.new.kept in
    let f = frame_of a.info.now a.red.now in
    let first = cleared-marks a.frames.d a.frames.blocks p.0.fits p.2 n.result (feed_bytes a.frames.d a.frames.blocks p.3 n.ensures.0) y.new.marks y.ensures in
    let long : length a.kept.now ≡ length kept = p.2.long ∙ sym v.ensures.2.long in
    let set = c.count-turned.ensures.0 ∙ ap (λ (z : ℕ). set_marks (take (z - n.result) (drop n.result kept))) long in
    let turned = marks-errors a.frames.d a.frames.blocks p.0.fits v.ensures.2 n.result (feed_bytes a.frames.d a.frames.blocks p.3 n.ensures.0) f set (v.ensures.3 f first.1) in
    let all : n.result / 4 ≡ lines_in FeedForward a.frames.blocks * a.frames.d.size = omega (arith, feed_bytes a.frames.d a.frames.blocks p.3 n.ensures.0, feed_total a.frames.d a.frames.blocks) in
    let A = feed_allowed p.0.fits in
    corrected-made a.frames.d a.frames.blocks a.window.groups a.window.limit (lists_in a.frames.d a.links.now) A.0 A.1.self A.1.parity f
    (fits_received p.2.frame) _ _ _ (fits_received v.ensures.2.frame) p.1.some-rounds v.ensures.0 turned
    (c.count-outside.ensures ∙ ap (nonzero_numbers kept) all ∙ kept-outside v.ensures.2
    ∙ ap (outside_among (params_of a.frames.d) (frame_of v.new.info v.new.red)) (feed_sites (params_of a.frames.d) (lists_in a.frames.d a.links.now) a.frames.blocks)) v.ensures.1
