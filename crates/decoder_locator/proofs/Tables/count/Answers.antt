-- Each quarter of the tables has one entry more than there are powers.
use native.Mathlib.Omega.{arith}
use Rattle.decoder_locator.proofs.Fields.{field_is}
use Rattle.decoder_locator.proofs.Roots.{count-is, count-size}
use Rattle.decoder_locator.proofs.Tables.count.Goals as goal

pub overflow_sub-result : goal.overflow_sub-result
overflow_sub-result c = omega (arith, (count-size (field_is c.args.self.now.filled)).0)

pub returns : goal.returns
returns c =
    let F = field_is c.args.self.now.filled in
    let (low, high, odd) = count-size F in (count-is F, low, high, odd)
