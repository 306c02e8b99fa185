use native.Mathlib.Omega.{arith}
use lib.ListN.{length-set}
use Rattle.words_tables.proofs.Tables.{doubled_more}
use Rattle.encoder_solution.proofs.product.double.Goals as goal

pub loop-v-preserved : goal.loop-v-preserved
loop-v-preserved c =
    let a = c.args in
    let l = c.loop-v in
    (omega arith, simp length-set (omega arith), doubled_more a.table.now l.table a.w a.x l.v (omega arith) (omega arith) l.invariant.2)
