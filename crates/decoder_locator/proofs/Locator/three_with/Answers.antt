-- The other two are looked for in what the entry at j leaves of the sum, and j is put where it belongs.
use native.Mathlib.Omega.{arith}
use Rattle.bch.specs.Polynomial.{◌⊕◌}
use Rattle.decoder_locator.specs.Steps.{PairIs, TripleWith}
use Rattle.decoder_locator.proofs.Values.{left-values}
use Rattle.decoder_locator.proofs.Triples.{with_first, with_middle, with_last}
use Rattle.decoder_locator.proofs.Locator.three_with.Goals as goal

pub two-requires : goal.two-requires
unfolding ◌⊕◌
two-requires c =
    let s = c.requires in
    let L = c.args.self.now in
    (s.0, left-values L.words c.args.x s.1 s.0 L.values.now L.syndrome (omega (arith, L.as_long)) c.args.j s.3)

pub returns-in_err-p : goal.returns-in_err-p
unfolding ◌⊕◌ PairIs TripleWith
returns-in_err-p c = rw c.from_residual.ensures c.in_err-p.ensures

pub returns-then-j-p : goal.returns-then-j-p
unfolding ◌⊕◌
returns-then-j-p c =
    with_first c.args.self.now.positions.now c.args.x c.args.j _ _ c.requires.2 c.requires.3 c.in_ok-p.ensures c.if-j-p.true

pub returns-then-j-q : goal.returns-then-j-q
unfolding ◌⊕◌
returns-then-j-q c =
    with_middle c.args.self.now.positions.now c.args.x c.args.j _ _ c.requires.2 c.requires.3 c.in_ok-p.ensures c.if-j-p.false c.if-j-q.true

pub returns : goal.returns
unfolding ◌⊕◌
returns c =
    with_last c.args.self.now.positions.now c.args.x c.args.j _ _ c.requires.2 c.requires.3 c.in_ok-p.ensures c.if-j-q.false
