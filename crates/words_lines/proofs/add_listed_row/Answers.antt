use mathlib.Core.Path.{ap, ◌∙◌}
use Prim.Native.Nat.{ℕ, ◌+◌, ◌*◌}
use native.Mathlib.Omega.{arith}
use lib.ListN.{get_or}
use Rattle.bch_remainders.proofs.Powers.{added_more}
use Rattle.words_lines.specs.Words.{entry_at}
use Rattle.words_lines.proofs.add_listed_row.Goals as goal

pub loop-a-preserved : goal.loop-a-preserved
loop-a-preserved c =
    let a = c.args in
    let l = c.loop-a in
    added_more a.sums.now l.sums (λ k. get_or a.bits.now (entry_at a.list.now (a.p + k)) 0 * a.x) l.a _ (omega arith) l.invariant
    (c.masked.ensures ∙ ap (λ (e : ℕ). get_or a.bits.now e 0 * a.x) c.entry-e.ensures.0)
