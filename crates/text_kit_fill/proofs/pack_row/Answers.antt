use native.Mathlib.Omega.{arith}
use mathlib.Core.Path.{ap, ◌∙◌}
use mathlib.Core.List.{List}
use Prim.Native.Nat.{ℕ, ◌+◌, ◌%◌}
use lib.ListN.{set}
use Rattle.text_kit_fill.proofs.Packing.{pack-none, pack-more}
use Rattle.text_kit_fill.proofs.pack_row.Goals as goal

pub loop-b-init : goal.loop-b-init
loop-b-init c = pack-none _ _ _

pub loop-b-preserved : goal.loop-b-preserved
loop-b-preserved c =
    let a = c.args in
    let b : ℕ = c.loop-b.b in
    let v : ℕ = c.gather-v.result in
    ap (λ (l : List ℕ). set l (a.from + b) (v % 256)) c.loop-b.invariant
    ∙ pack-more a.s.now a.at a.n a.out.now a.from b c.min-c.result v c.min-c.ensures c.gather-v.ensures
    (omega (arith, c.min-c.ensures, c.requires.n_in_bounds, c.loop-b-test.true))
