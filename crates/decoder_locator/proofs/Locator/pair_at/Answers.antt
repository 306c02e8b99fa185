-- Entries with a sum other than 0 stand at two positions.
use mathlib.Core.Path.{◌∙◌}
use Prim.Native.Nat.{◌-◌}
use native.Mathlib.Omega.{arith}
use lib.ListN.{length, get_or}
use Rattle.bch.specs.Polynomial.{◌⊕◌}
use Rattle.bch.proofs.Sum.{⊕_comm}
use Rattle.decoder_locator.specs.Steps.{PairIs, CarryAre}
use Rattle.decoder_locator.proofs.Values.{entries-apart}
use Rattle.decoder_locator.proofs.Locator.pair_at.Goals as goal

pub returns-then-n-e : goal.returns-then-n-e
unfolding CarryAre
returns-then-n-e c = λ e f. absurd (omega arith)

pub returns-then-n-f : goal.returns-then-n-f
unfolding CarryAre
returns-then-n-f c = λ e f. absurd (omega arith)

pub returns-then-self-p : goal.returns-then-self-p
unfolding CarryAre ◌⊕◌
returns-then-self-p c = λ e f. c.if-self-p.true

pub returns-then-p-q : goal.returns-then-p-q
unfolding CarryAre PairIs ◌⊕◌
returns-then-p-q c = (c.if-p-q.true, omega arith, c.if-self-p.false)

pub returns : goal.returns
unfolding CarryAre PairIs ◌⊕◌
returns c =
    let a = c.args in
    let if3 = c.if-self-p in
    let t = a.self.now.positions.now in
    let p = length t - 1 - a.e in
    let q = length t - 1 - a.f in
    let d = entries-apart t p q a.x if3.false c.requires in
    (omega arith, omega arith, ⊕_comm (get_or t q 0) (get_or t p 0) ∙ if3.false)
