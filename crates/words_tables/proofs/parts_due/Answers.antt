-- The tables of the blocks have the length of the definition, and those of the redundancy, at most 2 × 1024 entries, come behind them.
use native.Mathlib.Omega.{arith}
use Rattle.words_tables.specs.Tables.{table_length}
use Rattle.words_tables.proofs.parts_due.Goals as goal

pub returns : goal.returns
unfolding table_length
returns c =
    let due = c.tables_due-halves.ensures in
    let all = due.1 (omega (arith, c.if-halves-eq0.false)) in
    (omega (arith, due.0, c.table_length.ensures.0), λ h. omega (arith, all, c.table_length.ensures.0))
