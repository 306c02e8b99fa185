-- The table from its end, and the tables of its sums.
use native.Mathlib.Omega.{arith}
use mathlib.Core.Path.{refl, ◌∙◌}
use Rattle.words_lines.proofs.Tables.{parts_asked}
use Rattle.words_lines.proofs.turn_tables.Goals as goal

pub fill_parts-requires : goal.fill_parts-requires
fill_parts-requires c =
    let a = c.args in
    let p = c.requires in
    parts_asked a.frames.shape a.frames.d c.fill_backwards.new.out p.0 (c.fill_backwards.ensures.0 ∙ p.1.long) c.size-size.ensures c.tail_bits-tail.ensures.0
    (p.3 (omega (arith, c.if-tables-eq0.false))) refl
