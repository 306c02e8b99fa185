-- Three additions exchange the rows.
use mathlib.Core.Path.{◌∙◌}
use Rattle.matrix_elimination.proofs.Exchange.{three_added}
use Rattle.matrix_elimination.proofs.rows.exchange_rows.Goals as goal

pub returns : goal.returns
returns c =
    let a = c.args in
    let h = c.requires in
    let one = c.add_row in
    let two = c.add_row-2 in
    let three = c.add_row-3 in (
      three.ensures.0 ∙ two.ensures.0 ∙ one.ensures.0,
      three_added a.k a.w a.x a.y h.3 h.4 h.5 a.m.now one.new.m two.new.m three.new.m
          one.ensures.1 two.ensures.1 three.ensures.1,
    )
