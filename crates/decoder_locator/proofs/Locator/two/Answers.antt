-- Two positions whose entries have the sum x have the exponents that `exponents` finds.
use Rattle.decoder_locator.specs.Steps.{PairIs, ExponentsAre}
use Rattle.decoder_locator.proofs.Values.{low_below, high-below, not-zero, two_absent, two_carry}
use Rattle.decoder_locator.proofs.Locator.two.Goals as goal

pub exponents-requires : goal.exponents-requires
exponents-requires c =
    let s = c.requires in (low_below c.args.self.now.words c.args.x s.1, high-below c.args.self.now.words c.args.x s.1)

pub returns-in_err-e : goal.returns-in_err-e
unfolding PairIs
returns-in_err-e c =
    let s = c.requires in rw c.from_residual.ensures (two_absent c.args.self.now.words c.args.x s.1 s.0 c.in_err-e.ensures)

pub pair_at-requires : goal.pair_at-requires
unfolding ExponentsAre
pair_at-requires c =
    let s = c.requires in not-zero c.args.self.now.words c.args.x s.1 c.in_ok-e.ensures.0

pub returns : goal.returns
returns c =
    let s = c.requires in two_carry c.args.self.now.words c.args.x s.1 s.0 _ _ c.in_ok-e.ensures c.pair_at.result c.pair_at.ensures
