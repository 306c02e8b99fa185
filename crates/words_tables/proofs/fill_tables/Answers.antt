use mathlib.Core.Path.{◌≡◌, sym, ◌∙◌}
use Prim.Native.Nat.{ℕ, ◌+◌, ◌-◌, ◌*◌}
use native.Mathlib.Omega.{arith}
use lib.ListN.{length, get_or}
use Rattle.staircase.proofs.Fill.{each_part}
use Rattle.bch_remainders.proofs.Rows.{row-length}
use Rattle.words_tables.specs.Tables.{table_entry}
use Rattle.words_tables.proofs.Tables.{table_is}
use Rattle.words_tables.proofs.fill_tables.Goals as goal

pub loop-j-preserved : goal.loop-j-preserved
loop-j-preserved c =
    let a = c.args in
    let l = c.loop-j in
    let r = c.fill_table in
    let k : ℕ = 256 * l.j + 256 - 256 * l.j in
    let ek : k ≡ 256 = omega arith in
    let long : length r.new.table ≡ k = r.ensures.0 ∙ row-length l.tables (256 * l.j) 256 (omega arith) ∙ sym ek in
    let entries : ℕ → ℕ = λ i. get_or a.part.now i 0 in (
      omega arith,
      omega arith,
      λ q h. each_part (λ q z. z ≡ table_entry entries q) l.tables r.new.table (256 * l.j) k (omega arith) long l.invariant.2
          (λ s m. r.ensures.1 s (omega arith) ∙ table_is entries l.j s (omega arith)) q (omega arith),
    )
