-- Where the entry is 0 nothing is done, and otherwise it is 1.
use mathlib.Core.Path.{◌≡◌}
use native.Mathlib.Omega.{arith}
use Rattle.matrix_elimination.specs.Steps.{row_width, left}
use Rattle.matrix_elimination.proofs.Pivoting.{reduced_zero, reduced_one}
use Rattle.matrix_elimination.proofs.RowBits.{bit-lt}
use Rattle.matrix_elimination.proofs.RowEntries.{added_row, added_steps}
use Rattle.matrix_elimination.proofs.StepLaws.{steps_none}
use Rattle.matrix_elimination.proofs.rows.reduce_by.Goals as goal

pub returns-then-entry-eq0 : goal.returns-then-entry-eq0
returns-then-entry-eq0 c =
    let a = c.args in
    let zero : left a.n a.m.now a.to a.k ≡ 0 = omega (arith, c.entry.ensures, c.if-entry-eq0.true) in record {
      row_steps = steps_none a.n a.m.now;
      by_index = reduced_zero a.n a.to a.k (left a.n a.m.now) (bit-lt a.m.now (row_width a.n)) zero;
    }

pub returns : goal.returns
returns c =
    let a = c.args in
    let h = c.requires in
    let r = c.add_row in
    let one : left a.n a.m.now a.to a.k ≡ 1 =
    omega (arith, c.if-entry-eq0.false, c.entry.ensures, bit-lt a.m.now (row_width a.n) a.to a.k) in record {
      row_steps = added_steps a.n a.w a.to a.k h.1 a.m.now r.new.m r.ensures.1 h.3 h.4 h.5 r.ensures.0;
      by_index = reduced_one a.n a.to a.k (left a.n a.m.now) (left a.n r.new.m) one
          (λ i j hi hj. added_row a.n a.w a.to a.k h.1 a.m.now r.new.m r.ensures.1 i j hi (omega arith));
    }
