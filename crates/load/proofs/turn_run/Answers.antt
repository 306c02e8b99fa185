use mathlib.Core.Path.{◌≡◌, ap, ap₂, ◌∙◌}
use mathlib.Core.Bool.{Bool, cond}
use mathlib.Core.List.{List}
use Prim.Native.Nat.{ℕ, ◌+◌, ◌-◌}
use native.Mathlib.Omega.{arith}
use lib.ListN.{get_or, set}
use Rattle.staircase.specs.Load.{run_turns}
use Rattle.staircase.proofs.Fill.{filled_none, filled_more, filled_next}
use Rattle.load.proofs.Turning.{turn_bit, turned-all}
use Rattle.load.proofs.turn_run.Goals as goal

pub loop-k-init : goal.loop-k-init
loop-k-init c = filled_none _ _

pub loop-k-preserved : goal.loop-k-preserved
loop-k-preserved c =
    let a = c.args in
    let l = c.loop-k in
    let f = turn_bit (λ (j : ℕ). run_turns a.place a.long (a.first + j)) a.bits.now in
    let e : get_or l.bits l.k 0 ≡ get_or a.bits.now l.k 0 = ap (λ (t : List ℕ). get_or t l.k 0) l.invariant ∙ filled_next f a.bits.now l.k in
    ap₂ (λ (t : List ℕ) (x : ℕ). set t l.k x) l.invariant
    (c.turned_bit.ensures ∙ ap₂ (λ (z : Bool) (b : ℕ). cond z (1 - b) b) c.in_run-turn.ensures e)
    ∙ filled_more f a.bits.now l.k (omega arith)

pub returns : goal.returns
returns c =
    let a = c.args in
    let l = c.loop-k in
    l.invariant ∙ turned-all (λ j. run_turns a.place a.long (a.first + j)) a.bits.now l.k (omega arith)
