use native.Mathlib.Omega.{arith}
use Prim.Native.Nat.{◌≤◌}
use native.Mathlib.Nat.{le_trans}
use lib.ListN.{get_or}
use borrow.Author.Count.{below_more}
use Rattle.rules.proofs.greatest.Goals as goal

pub loop-b-preserved : goal.loop-b-preserved
loop-b-preserved c =
    let l = c.loop-b in
    below_more (λ k. get_or c.args.bytes.now k 0 ≤ c.max-most.result) l.b-index (λ k h. le_trans (l.invariant k h) (omega arith)) (omega arith)

pub returns : goal.returns
returns c = λ k h. c.loop-b.invariant k (omega arith)
