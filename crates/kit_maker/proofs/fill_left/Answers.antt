-- The places of the parity list's inverse are those that the rows are sent from.
use mathlib.Core.Path.{◌≡◌, sym, ap, ◌∙◌, subst}
use mathlib.Core.List.{List}
use Prim.Native.Nat.{ℕ}
use lib.ListN.{length, get_or}
use Rattle.staircase.specs.Rules.{entries}
use Rattle.staircase.specs.Demand2.{Permutes}
use Rattle.words_positions.proofs.Parts.{part-is}
use Rattle.kit_system.proofs.Places.{sent-at, sent-below}
use Rattle.kit_maker.proofs.SystemMade.{rows_fit, rows_are}
use Rattle.kit_maker.proofs.fill_left.Goals as goal

-- the parity list, by the order that code has
permutes : (list : List ℕ) (n k : ℕ) → n ≡ k → Permutes k (λ p. get_or (entries k list) p 0) → Permutes n (λ p. get_or (entries n list) p 0)
permutes list n k e h = subst (λ (k : ℕ). Permutes k (λ p. get_or (entries k list) p 0)) (sym e) h

pub fill_rows-requires : goal.fill_rows-requires
fill_rows-requires c =
    let a = c.args in
    let h = c.requires in
    let o = c.order-n in
    let f = c.fill_preimages in
    let p = permutes a.parity.now o.result _ o.ensures.0 h.0.parity_permutes in
    let same = part-is f.new.out _ _ f.ensures.0 in
    rw c.size-size.ensures
    (rows_fit a.d a.own.now a.parity.now a.work.now h.0 o.result o.ensures.0 a.columns.now a.part.now h.1 h.2 _
    (ap length same ∙ f.ensures.0) (sent-below o.result (entries o.result a.parity.now) p f.new.out _ f.ensures.1 same))

pub returns : goal.returns
returns c =
    let a = c.args in
    let h = c.requires in
    let o = c.order-n in
    let f = c.fill_preimages in
    let r = c.fill_rows in
    let p = permutes a.parity.now o.result _ o.ensures.0 h.0.parity_permutes in
    let same = part-is f.new.out _ _ f.ensures.0 in
    let rows = rw c.size-size.ensures at r.ensures.1 in (
      r.ensures.0,
      rows_are a.d a.own.now a.parity.now a.work.now h.0 o.result o.ensures.0 a.columns.now a.part.now h.1 h.2 _ r.new.m
          (sent-at o.result (entries o.result a.parity.now) p f.new.out _ f.ensures.1 same) rows,
    )
