-- 0 has the power 0, and another element that of k times its logarithm.
use Rattle.decoder_locator.proofs.Fields.{field_is}
use Rattle.decoder_locator.proofs.Cubics.{power_of_zero, power_of_is}
use Rattle.decoder_locator.proofs.Tables.power_of.Goals as goal

pub returns-then-x-eq0 : goal.returns-then-x-eq0
returns-then-x-eq0 c =
    let F = field_is c.args.self.now.filled in power_of_zero F c.args.k c.if-x-eq0.true

pub returns : goal.returns
returns c =
    let F = field_is c.args.self.now.filled in power_of_is F c.count.ensures.0 c.args.k c.if-x-eq0.false c.log_of.ensures c.power_at.ensures
