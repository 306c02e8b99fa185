use native.Mathlib.Omega.{arith}
use mathlib.Core.Path.{◌≡◌, ap, ap₂, ◌∙◌}
use mathlib.Core.Bool.{cond}
use mathlib.Core.List.{List}
use Prim.Native.Nat.{ℕ, ◌-◌}
use lib.Dec.{eqb}
use lib.ListN.{get_or, set}
use Rattle.staircase.proofs.Fill.{filled_none, filled_more, filled-all, filled_next}
use Rattle.loopback.specs.Link.{turned}
use Rattle.loopback.proofs.turn_bits.Goals as goal

pub loop-k-init : goal.loop-k-init
loop-k-init c = filled_none _ _

pub loop-k-preserved : goal.loop-k-preserved
loop-k-preserved c =
    let a = c.args in
    let l = c.loop-k in
    let old = a.bits.now in
    let f : ℕ → ℕ = λ j. cond (eqb (get_or a.errors.now j 0) 0) (get_or old j 0) (1 - get_or old j 0) in
    let here : get_or l.bits l.k 0 ≡ get_or old l.k 0 = ap (λ (z : List ℕ). get_or z l.k 0) l.invariant ∙ filled_next f old l.k in
    let v : c.turned_bit.result ≡ f l.k = c.turned_bit.ensures ∙ ap₂ (λ (e b : ℕ). cond (eqb e 0) b (1 - b)) c.error_at.ensures here in
    ap₂ (λ (u : List ℕ) (x : ℕ). set u l.k x) l.invariant v ∙ filled_more f old l.k (omega arith)

pub returns : goal.returns
unfolding turned
returns c = let l = c.loop-k in l.invariant ∙ filled-all _ _ _ _ (omega arith) (omega arith)
