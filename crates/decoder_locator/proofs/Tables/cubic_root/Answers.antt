-- The exponents are those of the coefficients of the cubic, of the square root, of the solution and of the root.
use Rattle.bch.specs.Polynomial.{◌⊕◌}
use Rattle.bch.proofs.Sum.{⊕-below}
use Rattle.decoder_locator.proofs.Fields.{field_is}
use Rattle.decoder_locator.proofs.Cubics.{cubic_root_is}
use Rattle.decoder_locator.proofs.Tables.cubic_root.Goals as goal

pub log_of-requires-2 : goal.log_of-requires-2
unfolding ◌⊕◌
log_of-requires-2 c =
    let F = field_is c.args.self.now.filled in
    ⊕-below c.args.self.now.m c.args.sum c.power_at.result c.requires.0 c.power_at.ensures.1

pub returns : goal.returns
unfolding ◌⊕◌
returns c =
    let log-of = c.log_of-u in
    let log-of2 = c.log_of in
    let half-exponent = c.half_exponent-h in
    let solution-at = c.solution_at-g in
    let F = field_is c.args.self.now.filled in
    cubic_root_is F c.count-n.ensures.0 c.requires.2 log-of.ensures c.requires.4 log-of2.ensures half-exponent.ensures.0
    half-exponent.ensures.1 solution-at.ensures c.power_at.ensures.0 c.log_of-2.ensures
