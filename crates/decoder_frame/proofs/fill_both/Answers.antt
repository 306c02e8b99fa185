-- Where no line is read backwards, the first pass takes them all.
use mathlib.Core.Path.{sym, ◌∙◌}
use Rattle.staircase.specs.Frame.{frame_of}
use Rattle.design.specs.Sizes.{params_of}
use Rattle.layout.proofs.Layouts.{turned_none}
use Rattle.decoder_frame.proofs.Filling.{one_filled, both-filled}
use Rattle.decoder_frame.proofs.fill_both.Goals as goal

pub returns-else-turns : goal.returns-else-turns
returns-else-turns c =
    let a = c.args in
    let g = a.frames in
    let one = c.fill_pass in (
      one.ensures.0,
      one_filled g a.own.now a.parity.now (frame_of a.info.now a.red.now) a.numbers.now one.new.numbers
          (turned_none g.shape (params_of g.d) (sym c.turns.ensures ∙ c.if-turns.false)) one.ensures.1,
    )

pub returns-then-turns : goal.returns-then-turns
returns-then-turns c =
    let a = c.args in
    let g = a.frames in
    let one = c.fill_pass in
    let two = c.fill_back in (
      two.ensures.0 ∙ one.ensures.0,
      both-filled g a.own.now a.parity.now (frame_of a.info.now a.red.now) a.numbers.now
          one.new.numbers two.new.numbers one.ensures.1 two.ensures.1,
    )
