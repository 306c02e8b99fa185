-- The words outside are those of the frame.
use mathlib.Core.Path.{refl, sym, ap, ◌∙◌}
use Rattle.staircase.specs.Frame.{Frame, outside_among, frame_of}
use Rattle.staircase.proofs.Flip.{Received, bit_at-bits}
use Rattle.staircase.proofs.BchCode.{odd_of, columns-apart}
use Rattle.staircase.proofs.Alike.{outside-read}
use Rattle.design.specs.Sizes.{params_of, lists_of}
use Rattle.design.proofs.Allowed.{proper_of}
use Rattle.words_lines.proofs.Lent.{received_lent, feed_sites}
use Rattle.words.proofs.count_received.Goals as goal

pub count_outside-requires : goal.count_outside-requires
count_outside-requires c = received_lent c.requires

pub returns : goal.returns
returns c =
    let a = c.args in
    let p = c.requires in
    let d = a.d in
    let f : Frame = frame_of a.info.now a.red.now in
    let itself : Received f f = record { info_length = refl; red_length = refl; binary = bit_at-bits f p.frame.info_bits p.frame.red_bits } in
    c.count_outside.ensures ∙ ap (outside_among (params_of d) f) (feed_sites (params_of d) (lists_of d a.own.now a.parity.now) a.blocks)
    ∙ sym (outside-read (params_of d) a.blocks (lists_of d a.own.now a.parity.now) (proper_of d p.allowed) (odd_of p.allowed) (columns-apart p.allowed)
    p.lists.own_permutes p.lists.parity_permutes f f itself)
