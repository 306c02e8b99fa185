-- Eight entries, one after the other.
use Prim.Native.Nat.{◌+◌, ◌*◌}
use lib.ListN.{get_or}
use Rattle.encoder_solution.proofs.Words.{sum_of_eight}
use Rattle.encoder_solution.proofs.product.eight_sum.Goals as goal

pub returns : goal.returns
returns c =
    let a =
    c.args in
    sum_of_eight (λ j. get_or a.tables.now (256 * j + get_or a.row.now j 0) 0)
    c.entry.ensures
    c.entry-2.ensures
    c.entry-3.ensures
    c.entry-4.ensures c.entry-5.ensures
    c.entry-6.ensures c.entry-7.ensures c.entry-8.ensures
