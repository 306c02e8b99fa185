-- The logarithms are the second quarter of the tables.
use Rattle.decoder_locator.proofs.Fields.{field_is}
use Rattle.decoder_locator.proofs.Roots.{log-read}
use Rattle.decoder_locator.proofs.Tables.log_of.Goals as goal

pub returns : goal.returns
returns c =
    log-read (field_is c.args.self.now.filled) c.requires c.from.ensures
