-- One of the two exponents comes from `root`, and the other is that of what its power leaves of the sum.
use Rattle.bch.specs.Polynomial.{◌⊕◌}
use Rattle.bch.proofs.Sum.{⊕-below}
use Rattle.decoder_locator.specs.Steps.{ExponentsAre}
use Rattle.decoder_locator.proofs.Fields.{field_is}
use Rattle.decoder_locator.proofs.Roots.{exponents_zero, exponents_none, exponents_are}
use Rattle.decoder_locator.proofs.Tables.exponents.Goals as goal

pub returns-then-sum-eq0 : goal.returns-then-sum-eq0
unfolding ExponentsAre
returns-then-sum-eq0 c = let F = field_is c.args.self.now.filled in exponents_zero F c.if-sum-eq0.true

pub returns-then-h-eq0 : goal.returns-then-h-eq0
unfolding ExponentsAre
returns-then-h-eq0 c =
    let F = field_is c.args.self.now.filled in
    exponents_none F c.if-sum-eq0.false c.log_of-a.ensures c.root-h.ensures.1 c.if-h-eq0.true

pub log_of-f-requires : goal.log_of-f-requires
unfolding ◌⊕◌
log_of-f-requires c =
    let F = field_is c.args.self.now.filled in
    ⊕-below c.args.self.now.m c.args.sum c.power_at.result c.requires.0 c.power_at.ensures.1

pub returns : goal.returns
unfolding ◌⊕◌
returns c =
    let if1 = c.if-sum-eq0 in
    let log-of = c.log_of-a in
    let root = c.root-h in
    let wrap = c.wrap-e in
    let F = field_is c.args.self.now.filled in
    exponents_are F if1.false log-of.ensures root.ensures.1 c.count.ensures.0 wrap.ensures.0 wrap.ensures.1
    c.power_at.ensures.0 c.log_of-f.ensures
