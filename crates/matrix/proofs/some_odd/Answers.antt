use mathlib.Core.Path.{sym, ap, ◌∙◌}
use mathlib.Core.Bool.{◌||◌}
use Prim.Native.Nat.{ℕ, ◌%◌}
use native.Mathlib.Numerals.{add-one}
use lib.Dec.{eqb, ltb}
use Rattle.staircase.specs.Lists.{first_where}
use Rattle.staircase.proofs.Search.{first_where_last}
use Rattle.matrix.proofs.Ones.{odd_gathered}
use Rattle.matrix.proofs.Wrong.{odd_at}
use Rattle.matrix.proofs.some_odd.Goals as goal

pub loop-byte-preserved : goal.loop-byte-preserved
loop-byte-preserved c =
    let bytes = c.args.bytes.now in
    let l = c.loop-byte in
    let x = l.byte-index in
    odd_gathered l.all c.ones_of-all.result _ l.invariant
    ∙ ap (λ (z : ℕ). ltb (first_where x (odd_at bytes)) x || eqb (z % 2) 1) c.ones_of-all.ensures
    ∙ sym (first_where_last x (odd_at bytes))
    ∙ ap (λ (n : ℕ). ltb (first_where n (odd_at bytes)) n) (sym (add-one x))
