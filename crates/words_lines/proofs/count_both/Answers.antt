-- Where no line is read backwards, the first pass takes them all.
use mathlib.Core.Path.{sym, ◌∙◌}
use Rattle.staircase.specs.Frame.{frame_of}
use Rattle.design.specs.Sizes.{params_of}
use Rattle.layout.proofs.Layouts.{turned_none}
use Rattle.words_lines.specs.Words.{layout_with}
use Rattle.words_lines.proofs.Count.{one_pass, both-passes}
use Rattle.words_lines.proofs.count_both.Goals as goal

pub returns-then-not-turns : goal.returns-then-not-turns
returns-then-not-turns c =
    let a = c.args in
    let g = a.frames in
    one_pass g.shape (layout_with g a.own.now a.parity.now) (frame_of a.info.now a.red.now)
    (turned_none g.shape (params_of g.d) (sym c.turns-turns.ensures ∙ c.if-not-turns.true)) c.count_pass-ahead.ensures.0

pub returns : goal.returns
returns c =
    let a = c.args in
    let g = a.frames in
    both-passes g.shape (layout_with g a.own.now a.parity.now) (frame_of a.info.now a.red.now) c.count_pass-ahead.ensures.0 c.count_back.ensures.0
