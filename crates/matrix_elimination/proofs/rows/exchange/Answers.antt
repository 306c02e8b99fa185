-- A row is exchanged with itself by doing nothing.
use native.Mathlib.Omega.{arith}
use Rattle.matrix_elimination.proofs.RowEntries.{exchanged-row, exchanged_steps}
use Rattle.matrix_elimination.proofs.rows.exchange.Goals as goal

pub returns : goal.returns
returns c =
    let a = c.args in
    let h = c.requires in
    let r = c.exchange_rows in record {
      row_steps = exchanged_steps a.n a.w a.x a.y h.1 a.m.now r.new.m r.ensures.1 h.3 h.4 c.if-x-y.false r.ensures.0;
      by_index = λ i j hi hj. exchanged-row a.n a.w a.x a.y h.1 a.m.now r.new.m r.ensures.1 i j hi (omega arith);
    }
