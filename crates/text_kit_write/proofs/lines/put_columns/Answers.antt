use native.Mathlib.Omega.{arith}
use mathlib.Core.Path.{refl, sym}
use Prim.Native.Nat.{ℕ, ◌+◌, ◌/◌, ◌%◌, ◌^◌, ◌<◌}
use lib.ListN.{get_or}
use Rattle.staircase.proofs.Tabulate.{tabulate-length, tabulate-at}
use Rattle.text_lines.proofs.Storing.{copied_more, copied_all}
use Rattle.text_kit_write.proofs.lines.put_columns.Goals as goal

pub loop-j-preserved : goal.loop-j-preserved
loop-j-preserved c =
    let a = c.args in
    let l = c.loop-j in
    let f : ℕ → ℕ = λ i. 48 + get_or a.inverse.now (a.from + i / 8) 0 / 2 ^ (i % 8) % 2 in
    let h : l.j < a.n = c.loop-j-test.true in
    (omega arith, copied_more _ _ _ _ _ l.invariant.1 _ (omega (arith, tabulate-length a.n f)) (sym (tabulate-at a.n f 0 l.j h)))

pub returns : goal.returns
returns c =
    let a = c.args in
    let f : ℕ → ℕ = λ i. 48 + get_or a.inverse.now (a.from + i / 8) 0 / 2 ^ (i % 8) % 2 in record {
      value = refl;
      out_after = copied_all _ _ _ _ _ c.loop-j.invariant.1 (omega (arith, tabulate-length a.n f));
    }
