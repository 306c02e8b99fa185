-- The values of the positions stand before those of four bits.
use Rattle.decoder_tables.proofs.Tables.{values-written}
use Rattle.decoder_tables.proofs.fill_values.Goals as goal

pub fill_sums-requires : goal.fill_sums-requires
fill_sums-requires c =
    let a = c.args in
    let p = c.requires in
    let x = c.fill_syndromes in
    let w = values-written a.m a.bits a.values.now x.new.table x.ensures.0 x.ensures.1 p.6 in
    (p.0, p.1, p.2, p.3, w.1, w.0)
