use mathlib.Core.Path.{◌≡◌, sym, ◌∙◌}
use Prim.Native.Nat.{ℕ, ◌+◌, ◌-◌, ◌*◌}
use native.Mathlib.Omega.{arith}
use lib.ListN.{length, get_or}
use Rattle.staircase.proofs.Fill.{each_part}
use Rattle.bch_remainders.proofs.Rows.{row-length}
use Rattle.words_tables.specs.Tables.{table_entry}
use Rattle.encoder_solution.proofs.Words.{table_of_part}
use Rattle.encoder_solution.proofs.product.fill_tables.Goals as goal

pub fill_table-requires : goal.fill_table-requires
fill_table-requires c =
    let a = c.args in
    let l = c.loop-j in
    (row-length a.words.now (8 * l.j) 8 (omega arith), row-length l.tables (256 * l.j) 256 (omega arith))

pub loop-j-preserved : goal.loop-j-preserved
loop-j-preserved c =
    let a = c.args in
    let l = c.loop-j in
    let r = c.fill_table in
    let k : ℕ = 256 * l.j + 256 - 256 * l.j in
    let ek : k ≡ 256 = omega arith in
    let long : length r.new.table ≡ k = r.ensures.0 ∙ row-length l.tables (256 * l.j) 256 (omega arith) ∙ sym ek in (
      omega arith,
      omega arith,
      λ q h. each_part (λ q z. z ≡ table_entry (λ k. get_or a.words.now k 0) q) l.tables r.new.table (256 * l.j) k (omega arith) long l.invariant.2
          (λ s m. r.ensures.1 s (omega arith) ∙ table_of_part a.words.now l.j s (omega arith)) q (omega arith),
    )
