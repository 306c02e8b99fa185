use mathlib.Core.Path.{◌≡◌, sym, ap, ◌∙◌}
use Prim.Native.Nat.{ℕ, ◌<◌}
use native.Mathlib.Omega.{arith}
use lib.ListN.{get_or, length-set}
use Rattle.staircase.specs.Rules.{entries}
use Rattle.staircase.specs.System.{preimage}
use Rattle.staircase.proofs.Permutation.{preimage-sent, preimage-of}
use Rattle.staircase.proofs.Fill.{placed_next}
use Rattle.rules.proofs.Entries.{entry-at}
use Rattle.kit_system.proofs.fill_preimages.Goals as goal

pub bounds-out-e : goal.bounds-out-e
bounds-out-e c =
    let a = c.args in
    let l = c.loop-p in
    let y : c.entry-e.result ≡ get_or (entries a.n a.list.now) l.p 0 = c.entry-e.ensures.0 ∙ entry-at a.n a.list.now l.p (omega arith) in
    let q : get_or (entries a.n a.list.now) l.p 0 < a.n = c.requires.3.below l.p (omega arith) in
    omega arith

pub loop-p-preserved : goal.loop-p-preserved
loop-p-preserved c =
    let n = c.args.n in
    let list = entries n c.args.list.now in
    let l = c.loop-p in
    let y : c.entry-e.result ≡ get_or list l.p 0 = c.entry-e.ensures.0 ∙ entry-at n c.args.list.now l.p (omega arith) in
    let q : get_or list l.p 0 < n = c.requires.3.below l.p (omega arith) in (
      omega arith,
      simp length-set (omega arith),
      placed_next n (preimage list n) (preimage list n) l.out l.p c.entry-e.result l.p (omega arith)
          (λ j h i. sym (preimage-sent list n c.requires.3 j h).1 ∙ ap (λ (z : ℕ). get_or list z 0) i ∙ sym y) l.invariant.2
          (sym (preimage-of list n c.requires.3 l.p (omega arith)) ∙ ap (preimage list n) (sym y)),
    )

pub returns : goal.returns
returns c =
    let n = c.args.n in
    (omega arith, λ q h. c.loop-p.invariant.2 q h (omega (arith, (preimage-sent (entries n c.args.list.now) n c.requires.3 q h).0)))
