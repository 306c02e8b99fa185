-- The solutions of the quadratic equation are the third quarter of the tables, those of the cubic the last.
use Rattle.decoder_locator.proofs.Fields.{field_is}
use Rattle.decoder_locator.proofs.Roots.{solution_read}
use Rattle.decoder_locator.proofs.Tables.solution_at.Goals as goal

pub returns : goal.returns
returns c = solution_read (field_is c.args.self.now.filled) c.args.k c.requires.0 c.requires.1 c.requires.2 c.from.ensures
