-- The powers are the first quarter of the tables.
use Rattle.decoder_locator.proofs.Fields.{field_is}
use Rattle.decoder_locator.proofs.Roots.{power-read}
use Rattle.decoder_locator.proofs.Tables.power_at.Goals as goal

pub returns : goal.returns
returns c =
    power-read (field_is c.args.self.now.filled) c.count.ensures.0 c.requires c.from.ensures
