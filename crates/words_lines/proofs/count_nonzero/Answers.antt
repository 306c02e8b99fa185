use mathlib.Core.Path.{◌≡◌, refl, ◌∙◌}
use mathlib.Core.Bool.{Bool, true, false, not, cond}
use Prim.Native.Nat.{◌≤◌}
use native.Mathlib.Omega.{arith}
use lib.Dec.{eqb}
use lib.ListN.{get_or}
use Rattle.std.specs.Int.{from_bool}
use Rattle.words_lines.proofs.Count.{nonzeros_next, nonzeros-end}
use Rattle.words_lines.proofs.count_nonzero.Goals as goal

-- 1 where the entry is not 0
one_if : (b : Bool) → (from_bool (not b) ≡ cond b 0 1) × (cond b 0 1 ≤ 1)
one_if true = (refl, omega arith)
one_if false = (refl, omega arith)

pub loop-x-preserved : goal.loop-x-preserved
loop-x-preserved c =
    let l = c.loop-x in
    let list = c.args.list.now in
    let next = nonzeros_next list l.x-index (omega arith) in
    let one = one_if (eqb (get_or list l.x-index 0) 0) in
    let counted = c.from-n.ensures ∙ one.0 in
    (omega (arith, counted, one.1), omega (arith, counted, next))

pub returns : goal.returns
returns c =
    let l = c.loop-x in
    let none = nonzeros-end c.args.list.now l.x-index (omega arith) in
    (omega (arith, none), omega arith)
